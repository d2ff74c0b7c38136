-- The content of the chunks of a WAVE file.
use Rattle.std.specs.Prelude.{◌<◌, ◌+◌, ◌-◌, ◌*◌, ◌/◌, ◌^◌, ◌==◌, ◌&&◌, ◌||◌, if◌then◌else◌, ℕ, pos, neg_ℤ, Bool}
use Rattle.std.specs.Prelude.{nat_le, List, [], ◌∷◌, length, take, drop, find, slice_index, bytes_eq, Option, Some}
use Rattle.std.specs.Prelude.{None, unwrap_or}
use Rattle.std.specs.Option.{option_map}
use Rattle.std.specs.Int.{w8, cast_signed}
use Rattle.sf_base.specs.Fields.{field_at}
use Rattle.hydra_records.specs.Records.{records}
use Rattle.bank_parts.specs.declared.parts.Sample.{Sample}
use Rattle.pcm_points.specs.declared.encoding.SampleEncoding.{SampleEncoding}
use Rattle.pcm_points.specs.declared.encoding.SampleEncoding.TheVariants as encoding
use Rattle.pcm_points.specs.Samples.{size_of}
use Rattle.pcm_points.specs.Dither.{reduced_words}
use Rattle.wave_file.specs.SamplerPitch.{unity_note, pitch_fraction}
use Rattle.wave_file.specs.SampleWave.{stored_pitch}
use Rattle.wave_file.specs.declared.sampler_loop.SamplerLoop.{SamplerLoop}
use Rattle.wave_file.specs.declared.options.ReadOptions.{ReadOptions}
use Rattle.wave_file.specs.declared.recording.Layout.{Layout}
use Rattle.wave_file.specs.declared.recording.Layout.TheVariants as layout
use Rattle.wave_file.specs.declared.recording.Channels.{Channels}
use Rattle.wave_file.specs.declared.recording.Channels.TheVariants as channels
use Rattle.wave_file.specs.declared.recording.Format.{Format}
use Rattle.wave_file.specs.declared.recording.Pitch.{Pitch}
use Rattle.wave_file.specs.declared.recording.Sampler.{Sampler}

-- ---- the options

-- all channels, and the key of the file
abbrev pub as_stored : ReadOptions
as_stored = record { channel = None; key = None; dither = None }

-- a key that is a byte
abbrev pub FitsKey : Option ℕ → Type 0
FitsKey None = Unit {0}
FitsKey (Some key) = key < 2 ^ 8

-- ---- the `fmt ` chunk

abbrev pub tag_in : List ℕ → ℕ
tag_in f = field_at 0 2 f

abbrev pub channel_count_in : List ℕ → ℕ
channel_count_in f = field_at 2 2 f

abbrev pub bits_in : List ℕ → ℕ
bits_in f = field_at 14 2 f

-- the subformat GUID of integer PCM
unfoldable pub PCM : List ℕ
PCM = 1 ∷ 0 ∷ 0 ∷ 0 ∷ 0 ∷ 0 ∷ 16 ∷ 0 ∷ 128 ∷ 0 ∷ 0 ∷ 170 ∷ 0 ∷ 56 ∷ 155 ∷ 113 ∷ []

-- the subformat GUID of IEEE 754 numbers
unfoldable pub IEEE_FLOAT : List ℕ
IEEE_FLOAT = 3 ∷ 0 ∷ 0 ∷ 0 ∷ 0 ∷ 0 ∷ 16 ∷ 0 ∷ 128 ∷ 0 ∷ 0 ∷ 170 ∷ 0 ∷ 56 ∷ 155 ∷ 113 ∷ []

-- samples of this format tag, directly or by their subformat in WAVE_FORMAT_EXTENSIBLE
abbrev pub has_tag : ℕ → List ℕ → List ℕ → Bool
has_tag tag subformat f = tag_in f == tag || (tag_in f == 65534 && bytes_eq (take 16 (drop 24 f)) subformat)

abbrev pub is_pcm : List ℕ → Bool
is_pcm f = has_tag 1 PCM f

abbrev pub is_float : List ℕ → Bool
is_float f = has_tag 3 IEEE_FLOAT f && bits_in f == 32

-- integers of this many bits
abbrev pub integers_of : ℕ → Option SampleEncoding
integers_of bits =
    if bits == 8 then Some encoding.Unsigned8
    else if bits == 16 then Some encoding.Signed16
    else if bits == 24 then Some encoding.Signed24
    else if bits == 32 then Some encoding.Signed32 else None

abbrev pub encoding_in : List ℕ → Option SampleEncoding
encoding_in f = if is_float f then Some encoding.Float32 else integers_of (bits_in f)

-- the given channel of n, or else all of one or two
abbrev pub layout_of : Option ℕ → ℕ → Layout
layout_of (Some channel) n = layout.Mono n channel
layout_of None n = if n == 2 then layout.Stereo else layout.Mono n 0

-- the format, with the given channel
abbrev pub format_in : Option ℕ → List ℕ → Format
format_in channel f = record {
  layout = layout_of channel (channel_count_in f);
  encoding = unwrap_or (encoding_in f) encoding.Signed16;
  rate = field_at 4 4 f;
}

-- ---- the `data` chunk

abbrev pub channel_count : Layout → ℕ
channel_count (layout.Mono n channel) = n
channel_count layout.Stereo = 2

-- the channel that is read exists
abbrev pub HasChannel : Layout → Type 0
HasChannel (layout.Mono n channel) = channel < n
HasChannel layout.Stereo = Unit {0}

-- the size of a frame in bytes
abbrev pub frame_size : Format → ℕ
frame_size format = channel_count format.layout * size_of format.encoding

-- The points of one of n channels; those of 16 bits and a single channel are the samples themselves, which are not
-- converted.
abbrev pub mono_in : SampleEncoding → ℕ → List ℕ → Channels
mono_in encoding.Signed16 n points = if n == 1 then channels.Mono points else channels.MonoSamples points
mono_in encoding.Unsigned8 n points = channels.MonoSamples points
mono_in encoding.Signed24 n points = channels.MonoSamples points
mono_in encoding.Signed32 n points = channels.MonoSamples points
mono_in encoding.Float32 n points = channels.MonoSamples points

-- with the dither of a seed, if one is given
abbrev pub channels_of : Option ℕ → Layout → SampleEncoding → List ℕ → Channels
channels_of dither (layout.Mono n channel) e bytes = mono_in e n (reduced_words dither e n channel bytes)
channels_of dither layout.Stereo e bytes =
    channels.Stereo (reduced_words dither e 2 0 bytes) (reduced_words dither e 2 1 bytes)

abbrev pub channels_in : Option ℕ → Format → List ℕ → Channels
channels_in dither format bytes = channels_of dither format.layout format.encoding bytes

abbrev pub frame_count : Channels → ℕ
frame_count (channels.Mono points) = length points
frame_count (channels.MonoSamples points) = length points
frame_count (channels.Stereo left right) = length left

-- ---- the `smpl` chunk: loops

abbrev pub loop_count_in : List ℕ → ℕ
loop_count_in s = field_at 28 4 s

-- its type, its first point and its last point
abbrev pub sampler_loop_of : List ℕ → SamplerLoop
sampler_loop_of bytes = record { kind = field_at 4 4 bytes; first = field_at 8 4 bytes; last = field_at 12 4 bytes }

abbrev pub loops_in : List ℕ → List SamplerLoop
loops_in s = records 24 sampler_loop_of (take (24 * loop_count_in s) (drop 36 s))

-- the first forward loop
abbrev pub forward_loop : List ℕ → Option SamplerLoop
forward_loop s = find (λ (l : SamplerLoop). l.kind == 0) (loops_in s)

-- the first point of a loop, and the first point after it
abbrev pub ends_of : SamplerLoop → ℕ × ℕ
ends_of l = (l.first, l.last + 1)

-- ---- the `smpl` chunk: pitch

abbrev pub unity_note_in : List ℕ → ℕ
unity_note_in s = field_at 12 4 s

abbrev pub fraction_in : List ℕ → ℕ
fraction_in s = field_at 16 4 s

-- the sampler data, after the loops
abbrev pub data_in : List ℕ → List ℕ
data_in s = take (field_at 32 4 s) (drop (36 + 24 * loop_count_in s) s)

-- the key and the correction in sampler data that sfbank wrote
abbrev pub pitch_of_stored : List ℕ → Pitch
pitch_of_stored bytes = record { key = slice_index bytes 4; correction = cast_signed w8 (slice_index bytes 5) }

-- the chunk is what sfbank writes for a sample of this key and correction
abbrev pub is_stored : List ℕ → Pitch → Bool
is_stored s p =
    bytes_eq (data_in s) (stored_pitch p.key p.correction)
    && (unity_note_in s == unity_note p.key p.correction && fraction_in s == pitch_fraction p.key p.correction)

abbrev pub stored_in : List ℕ → Option Pitch
stored_in s =
    if length (data_in s) == 8 && is_stored s (pitch_of_stored (data_in s)) then Some (pitch_of_stored (data_in s)) else None

-- the pitch fraction in cents, rounded to nearest
abbrev pub cents_in : List ℕ → ℕ
cents_in s = (100 * fraction_in s + 2 ^ 31) / 2 ^ 32

-- the nearest key to a note and cents above it, at most 127, and the correction from it
abbrev pub nearest : ℕ → ℕ → Pitch
nearest note cents =
    if nat_le cents 50 || note == 127 then record { key = note; correction = neg_ℤ (pos cents) }
    else record { key = note + 1; correction = pos (100 - cents) }

-- the key and the correction that sfbank stored, else the nearest ones
abbrev pub pitch_of : Option Pitch → List ℕ → Pitch
pitch_of (Some p) s = p
pitch_of None s = nearest (unity_note_in s) (cents_in s)

abbrev pub pitch_in : List ℕ → Pitch
pitch_in s = pitch_of (stored_in s) s

-- ---- the `smpl` chunk, if there is one

-- without one: no pitch and no loop
abbrev pub sampler_in : Option (List ℕ) → Sampler
sampler_in None = record { pitch = None; looped = None }
sampler_in (Some s) = record { pitch = Some (pitch_in s); looped = option_map ends_of (forward_loop s) }

-- a given key, with no correction, in place of that of the chunk
abbrev pub with_key : Option ℕ → Sampler → Sampler
with_key (Some key) s = record { pitch = Some (record { key = key; correction = pos 0 }); looped = s.looped }
with_key None s = s

-- ---- the pitch of a sample

-- that of a new sample whose recording has none: key 60, no correction
abbrev pub default_pitch : Pitch
default_pitch = record { key = 60; correction = pos 0 }

-- its key and its correction
abbrev pub own_pitch : Sample → Pitch
own_pitch s = record { key = s.key; correction = s.correction }
