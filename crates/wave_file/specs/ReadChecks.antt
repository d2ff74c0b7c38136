-- The checks of reading a WAVE file, in order. The first that fails gives the fault.
use Rattle.std.specs.Prelude.{◌+◌, ◌-◌, ◌*◌, ◌%◌, ◌^◌, ◌==◌, ◌&&◌, ◌||◌, ℕ, Bool, min, nat_le, nat_lt, List, [], ◌∷◌}
use Rattle.std.specs.Prelude.{◌++◌, length, take, drop, bytes_eq, if◌then◌else◌, Option, Some, None, is_some, unwrap_or}
use Rattle.std.specs.Prelude.{Result, Ok, Err}
use Rattle.riff_chunks.specs.Walk.{Chunk}
use Rattle.riff_chunks.specs.Finding.{first_body}
use Rattle.bank_format.specs.Chunks.{body_in}
use Rattle.wave_file.specs.Wave.{RIFF, WAVE, FORMAT, DATA}
use Rattle.wave_file.specs.SampleWave.{SAMPLER}
use Rattle.wave_file.specs.Streams.{is_streamed, wave_window, is_readable, wave_chunks}
use Rattle.wave_file.specs.declared.fault.WaveFault.{WaveFault}
use Rattle.wave_file.specs.declared.fault.WaveFault.TheVariants as fault
use Rattle.wave_file.specs.declared.sampler_loop.SamplerLoop.{SamplerLoop}
use Rattle.wave_file.specs.declared.options.ReadOptions.{ReadOptions}
use Rattle.wave_file.specs.declared.recording.Format.{Format}
use Rattle.wave_file.specs.declared.recording.Recording.{Recording}
use Rattle.bank_format.specs.FaultChecks.{Check, check, first_fault}
use Rattle.bank_format.specs.ReadChecks.{form_checks}
use Rattle.wave_file.specs.Recordings.{channel_count_in, is_pcm, is_float, encoding_in, format_in, frame_size}
use Rattle.wave_file.specs.Recordings.{channels_in, frame_count, loop_count_in, forward_loop, unity_note_in}
use Rattle.wave_file.specs.Recordings.{sampler_in, with_key}

-- ---- the RIFF chunk, whose form type is WAVE

-- its id and its form; its size is unknown
unfoldable pub streamed_checks : List ℕ → List (Check WaveFault)
streamed_checks file =
    check (bytes_eq (take 4 file) RIFF) fault.NotWave
    ∷ check (nat_le 12 (length file)) fault.Truncated
    ∷ check (bytes_eq (take 4 (drop 8 file)) WAVE) fault.NotWave
    ∷ []

unfoldable pub riff_checks : List ℕ → List (Check WaveFault)
riff_checks file =
    if is_streamed file then streamed_checks file
    else form_checks WAVE fault.NotWave fault.Truncated fault.NotWave file

-- ---- the `fmt ` chunk

-- the given channel is one of n; without one there are one or two
abbrev pub channel_checks : Option ℕ → ℕ → List (Check WaveFault)
channel_checks (Some channel) n = check (nat_lt channel n) fault.NoSuchChannel ∷ []
channel_checks None n = check (n == 1 || n == 2) fault.ChannelCount ∷ []

unfoldable pub format_checks : Option ℕ → List ℕ → List (Check WaveFault)
format_checks channel f =
    check (nat_le 16 (length f)) fault.NoFormat
    ∷ check (is_pcm f || is_float f) fault.Compressed
    ∷ check (is_some (encoding_in f)) fault.SampleBits
    ∷ channel_checks channel (channel_count_in f)

-- ---- the `data` chunk, of whole frames

unfoldable pub frame_checks : Format → List ℕ → List (Check WaveFault)
frame_checks format bytes = check (length bytes % frame_size format == 0) fault.HalfFrame ∷ []

unfoldable pub data_checks : Format → Option (List ℕ) → List (Check WaveFault)
data_checks format body = check (is_some body) fault.NoData ∷ frame_checks format (unwrap_or body [])

-- ---- the `smpl` chunk, if there is one

-- the chunk holds its header and all its loops
abbrev pub has_loops : List ℕ → Bool
has_loops s = nat_le 36 (length s) && nat_le (36 + 24 * loop_count_in s) (length s)

-- a loop of at least one point among these frames, whose end fits into 32 bits
abbrev pub is_inside : ℕ → SamplerLoop → Bool
is_inside frames l = nat_le l.first l.last && nat_lt l.last (min frames (2 ^ 32 - 1))

abbrev pub loop_checks : ℕ → Option SamplerLoop → List (Check WaveFault)
loop_checks frames None = []
loop_checks frames (Some l) = check (is_inside frames l) fault.LoopOutside ∷ []

unfoldable pub chunk_checks : ℕ → List ℕ → List (Check WaveFault)
chunk_checks frames s =
    check (has_loops s) fault.ShortSampler
    ∷ check (nat_le (unity_note_in s) 127) fault.UnityNote
    ∷ loop_checks frames (forward_loop s)

abbrev pub sampler_checks : ℕ → Option (List ℕ) → List (Check WaveFault)
sampler_checks frames None = []
sampler_checks frames (Some s) = chunk_checks frames s

-- ---- together

-- the first chunk of each id
unfoldable pub content_checks : ReadOptions → List Chunk → List (Check WaveFault)
content_checks options chunks =
    let f = body_in FORMAT chunks in
    let format = format_in options.channel f in
    let body = body_in DATA chunks in
    format_checks options.channel f
    ++ (data_checks format (first_body DATA chunks)
    ++ sampler_checks (frame_count (channels_in options.dither format body)) (first_body SAMPLER chunks))

unfoldable pub content_in : ReadOptions → List Chunk → Recording
content_in options chunks =
    let f = format_in options.channel (body_in FORMAT chunks) in
    record {
      channels = channels_in options.dither f (body_in DATA chunks);
      rate = f.rate;
      sampler = with_key options.key (sampler_in (first_body SAMPLER chunks));
    }

-- the chunks of a window fit, but for data of unknown size
abbrev pub walk_checks : List ℕ → List (Check WaveFault)
walk_checks w = check (is_readable w) fault.Truncated ∷ []

unfoldable pub window_checks : ReadOptions → List ℕ → List (Check WaveFault)
window_checks options w = walk_checks w ++ content_checks options (wave_chunks w)

unfoldable pub steps : ReadOptions → List ℕ → List (Check WaveFault)
steps options file = riff_checks file ++ window_checks options (wave_window file)

-- a value, or the fault of a failed check
abbrev pub unless_broken : {X : Type 0} → Option WaveFault → X → Result X WaveFault
unless_broken None value = Ok value
unless_broken (Some fault) value = Err fault

-- The recording of a WAVE file, or the fault of the first check that fails.
unfoldable pub recording_in : ReadOptions → List ℕ → Result Recording WaveFault
recording_in options file =
    unless_broken (first_fault (steps options file)) (content_in options (wave_chunks (wave_window file)))
