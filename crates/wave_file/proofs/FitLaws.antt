-- The fields of a recording read from bytes are in range, and so are the edits of its import.
use Rattle.std.proofs.Common.{◌≡◌, ◌≤◌, ◌<◌, ◌+◌, ◌-◌, ◌^◌, ℕ, zero, suc, pos, neg_ℤ, Bool, true, false, cond, leb}
use Rattle.std.proofs.Common.{ltb, eqb, ◌&&◌, ◌||◌, List, [], ◌∷◌, ◌++◌, length, take, drop, get_or, codes, Option}
use Rattle.std.proofs.Common.{Some, None, Ok, FitsSigned, refl, inl, inr, arith}
use Rattle.std.specs.Prelude.{unwrap_or, IfSome}
use Rattle.std.specs.Option.{option_map}
use Rattle.std.specs.Int.{w8}
use Rattle.std.specs.List.{AllByRecursion}
use Rattle.std.proofs.lemmas.Bool.{cases_lt, leb-true, ltb-true, and_parts}
use Rattle.std.proofs.lemmas.List.{get_or_past}
use borrow.Author.Gap.{read_sfits}
use Rattle.sf_base.specs.declared.limits.TheConstants.{SAMPLES}
use Rattle.sf_base.specs.Names.{before_zero, IsTextByte, IsName}
use Rattle.sample_view.specs.Words.{AreWords}
use Rattle.pcm_points.specs.declared.encoding.SampleEncoding.{SampleEncoding}
use Rattle.pcm_points.specs.declared.encoding.SampleEncoding.TheVariants.{Unsigned8, Signed16, Signed24, Signed32}
use Rattle.pcm_points.specs.declared.encoding.SampleEncoding.TheVariants.{Float32}
use Rattle.pcm_points.specs.Dither.{reduced_words}
use Rattle.pcm_points.proofs.DitherLaws.{reduced_fit}
use Rattle.riff_chunks.specs.Walk.{Chunk, walk}
use Rattle.riff_chunks.specs.Finding.{chunks_in, is_whole, first_body}
use Rattle.hydra_records.specs.Records.{AreBytes}
use Rattle.hydra_records.proofs.Fields.{field_at-lt}
use Rattle.bank_parts.specs.declared.parts.Kind.{Kind}
use Rattle.bank_parts.specs.declared.parts.Kind.TheVariants as kind
use Rattle.bank_parts.specs.declared.parts.Sample.{Sample}
use Rattle.bank_parts.specs.Fits.{FitsSample, FitsKind, FitsLoop}
use Rattle.bank_format.specs.Chunks.{window, body_in}
use Rattle.bank_format.proofs.AllLaws.{all-append}
use Rattle.bank_format.proofs.CheckLaws.{split_none, both_none}
use Rattle.bank_format.proofs.ReadBytes as riff
use Rattle.bank_format.proofs.ReadBytes.{OfBytes, take_bytes, drop_bytes, walk_bytes, body_bytes}
use Rattle.edit_forms.specs.declared.edit.Edit.TheVariants.{One}
use Rattle.edit_forms.specs.declared.points.PointStep.TheVariants.{SetKind}
use Rattle.edit_forms.specs.declared.step.Step.TheVariants.{Points}
use Rattle.edit_forms.specs.Fits.{FitsEdit}
use Rattle.wave_file.specs.Wave.{FORMAT, DATA}
use Rattle.wave_file.specs.SampleWave.{SAMPLER, made}
use Rattle.wave_file.specs.Streams.{is_streamed, wave_window, rest_of, wave_chunks}
use Rattle.wave_file.specs.declared.fault.WaveFault.{WaveFault}
use Rattle.wave_file.specs.declared.sampler_loop.SamplerLoop.{SamplerLoop}
use Rattle.wave_file.specs.declared.options.ReadOptions.{ReadOptions}
use Rattle.wave_file.specs.declared.recording.Layout.{Layout}
use Rattle.wave_file.specs.declared.recording.Layout.TheVariants as layout
use Rattle.wave_file.specs.declared.recording.Channels.{Channels}
use Rattle.wave_file.specs.declared.recording.Channels.TheVariants.{Mono, MonoSamples, Stereo}
use Rattle.wave_file.specs.declared.recording.Pitch.{Pitch}
use Rattle.wave_file.specs.declared.recording.Sampler.{Sampler}
use Rattle.wave_file.specs.declared.recording.Recording.{Recording}
use Rattle.bank_format.specs.FaultChecks.{first_fault}
use Rattle.wave_file.specs.Recordings.{format_in, mono_in, channels_of, forward_loop, ends_of, unity_note_in}
use Rattle.wave_file.specs.Recordings.{fraction_in, data_in, pitch_of_stored, is_stored, stored_in, cents_in, nearest}
use Rattle.wave_file.specs.Recordings.{FitsKey, pitch_of, sampler_in, with_key, default_pitch}
use Rattle.wave_file.specs.ReadChecks.{riff_checks, format_checks, data_checks, has_loops, is_inside, loop_checks}
use Rattle.wave_file.specs.ReadChecks.{chunk_checks, sampler_checks, content_checks, content_in, window_checks, steps}
use Rattle.wave_file.specs.ReadChecks.{unless_broken, recording_in}
use Rattle.wave_file.specs.Imports.{mono_name, side_name, sample_of, add_edit, pair_edits, mono_edits, channel_edits}
use Rattle.wave_file.specs.Imports.{import_edits}
use Rattle.wave_file.proofs.ImportLaws.{truncated_text, side_named}

pub record FitsPitch (p : Pitch) : Type 0 where
  pub key : p.key < 2 ^ 8
  pub correction : FitsSigned w8 p.correction

pub record FitsSampler (s : Sampler) : Type 0 where
  pub pitch : IfSome s.pitch FitsPitch
  pub looped : FitsLoop s.looped

abbrev pub FitChannels : Channels → Type 0
FitChannels (Mono points) = AreWords points
FitChannels (MonoSamples points) = AreWords points
FitChannels (Stereo left right) = AreWords left × AreWords right

pub record FitsRecording (r : Recording) : Type 0 where
  pub channels : FitChannels r.channels
  pub rate : r.rate < 2 ^ 32
  pub sampler : FitsSampler r.sampler

-- ---- channels

mono_fits : (e : SampleEncoding) (n : ℕ) (points : List ℕ) → AreWords points → FitChannels (mono_in e n points)
mono_fits Unsigned8 n points p = p
mono_fits Signed16 n points p = either (eqb n 1)
  where
    either : (b : Bool) → FitChannels (cond b (Mono points) (MonoSamples points))
    either true = p
    either false = p
mono_fits Signed24 n points p = p
mono_fits Signed32 n points p = p
mono_fits Float32 n points p = p

channels_fit : (dither : Option ℕ) (l : Layout) (e : SampleEncoding) (bytes : List ℕ)
    → FitChannels (channels_of dither l e bytes)
channels_fit dither (layout.Mono n channel) e bytes =
    mono_fits e n (reduced_words dither e n channel bytes) (reduced_fit dither e n channel bytes)
channels_fit dither layout.Stereo e bytes = (reduced_fit dither e 2 0 bytes, reduced_fit dither e 2 1 bytes)

-- ---- the pitch

byte_lt : (bytes : List ℕ) → AreBytes bytes → (k : ℕ) → get_or bytes k 0 < 256
byte_lt bytes b k =
    elim (cases_lt k (length bytes)) [ inl lt ↦ b k 0 lt | inr le ↦ rw (get_or_past bytes k 0 le) (omega arith) ]

below : (n : ℕ) → n ≤ 100 → FitsSigned w8 (neg_ℤ (pos n))
below zero h = record { sfits = omega arith }
below (suc n) h = record { sfits = omega (arith, h) }

nearest_fits : (note cents : ℕ) → note ≤ 127 → cents ≤ 100 → FitsPitch (nearest note cents)
nearest_fits note cents n c = either (leb cents 50 || eqb note 127)
  where
    either : (b : Bool)
        → FitsPitch
        (cond b (record { key = note; correction = neg_ℤ (pos cents) })
        (record { key = note + 1; correction = pos (100 - cents) }))
    either true = record { key = omega (arith, n); correction = below cents c }
    either false = record { key = omega (arith, n); correction = record { sfits = omega arith } }

stored_fits : (b : Bool) (p : Pitch) (s : List ℕ) → FitsPitch p → FitsPitch (nearest (unity_note_in s) (cents_in s))
    → FitsPitch (pitch_of (cond b (Some p) None) s)
stored_fits true p s h k = h
stored_fits false p s h k = k

pitch_fits : (s : List ℕ) → AreBytes s → unity_note_in s ≤ 127 → FitsPitch (pitch_of (stored_in s) s)
pitch_fits s b note =
    let inner : AreBytes (data_in s) = take_bytes _ _ (drop_bytes _ s b) in
    let fraction : fraction_in s < 2 ^ 32 = field_at-lt 16 4 s b in
    let p : FitsPitch (pitch_of_stored (data_in s)) =
    record { key = byte_lt (data_in s) inner 4; correction = read_sfits w8 (get_or (data_in s) 5 0) } in
    stored_fits (eqb (length (data_in s)) 8 && is_stored s (pitch_of_stored (data_in s))) (pitch_of_stored (data_in s)) s p
    (nearest_fits (unity_note_in s) (cents_in s) note (omega (arith, fraction)))

-- ---- the loop

loop_fits : (n : ℕ) (o : Option SamplerLoop) → first_fault (loop_checks n o) ≡ None → FitsLoop (option_map ends_of o)
loop_fits n None h = tt
loop_fits n (Some l) h =
    let inside = split_none (is_inside n l) _ _ h in
    let both = and_parts (leb l.first l.last) _ inside.0 in
    let first = leb-true _ _ both.0 in
    let last = ltb-true _ _ both.1 in
    (omega (arith, first, last), omega (arith, last))

-- ---- the `smpl` chunk

sampler_fits : (n : ℕ) (o : Option (List ℕ)) → AreBytes (unwrap_or o []) → first_fault (sampler_checks n o) ≡ None
    → FitsSampler (sampler_in o)
unfolding chunk_checks
sampler_fits n None b h = record { pitch = tt; looped = tt }
sampler_fits n (Some s) b h =
    let whole = split_none (has_loops s) _ _ h in
    let note = split_none (leb (unity_note_in s) 127) _ _ whole.1 in
    record { pitch = pitch_fits s b (leb-true _ _ note.0); looped = loop_fits n (forward_loop s) note.1 }

key_fits : (key : Option ℕ) (s : Sampler) → FitsKey key → FitsSampler s → FitsSampler (with_key key s)
key_fits None s k f = f
key_fits (Some key) s k f =
    record { pitch = record { key = k; correction = record { sfits = omega arith } }; looped = f.looped }

-- ---- together

content_fits : (options : ReadOptions) (chunks : List Chunk) → FitsKey options.key → AllByRecursion OfBytes chunks
    → first_fault (content_checks options chunks) ≡ None → FitsRecording (content_in options chunks)
unfolding content_checks content_in
content_fits options chunks k b h =
    let f = body_in FORMAT chunks in
    let format = format_in options.channel f in
    let past_format = both_none (format_checks options.channel f) _ h in
    let past_data = both_none (data_checks format (first_body DATA chunks)) _ past_format.1 in
    let found = sampler_fits _ (first_body SAMPLER chunks) (body_bytes SAMPLER chunks b) past_data.1 in
    record {
      channels = channels_fit options.dither format.layout format.encoding (body_in DATA chunks);
      rate = field_at-lt 4 4 f (body_bytes FORMAT chunks b);
      sampler = key_fits options.key (sampler_in (first_body SAMPLER chunks)) k found;
    }

-- ---- the window

window_bytes : (file : List ℕ) → AreBytes file → AreBytes (wave_window file)
unfolding wave_window
window_bytes file b = either (is_streamed file)
  where
    either : (t : Bool) → AreBytes (cond t (drop 12 file) (window file))
    either true = drop_bytes 12 file b
    either false = riff.window_bytes file b

chunks_bytes : (w : List ℕ) → AreBytes w → AllByRecursion OfBytes (wave_chunks w)
unfolding wave_chunks rest_of
chunks_bytes w b = either (is_whole (walk w))
  where
    found : AllByRecursion OfBytes (chunks_in (walk w))
    found = walk_bytes w b

    either : (t : Bool)
        → AllByRecursion OfBytes
        (cond t (chunks_in (walk w)) (chunks_in (walk w) ++ made DATA (drop 8 (rest_of w)) ∷ []))
    either true = found
    either false =
        all-append OfBytes (chunks_in (walk w)) (made DATA (drop 8 (rest_of w)) ∷ []) found
        (drop_bytes 8 (rest_of w) (drop_bytes _ w b), tt)

-- ---- the file

-- a WAVE file that fails no check
pub record IsRead (options : ReadOptions) (wave : List ℕ) (r : Recording) : Type 0 where
  pub holds : first_fault (steps options wave) ≡ None
  pub is : content_in options (wave_chunks (wave_window wave)) ≡ r

pub is_read : (options : ReadOptions) (wave : List ℕ) (r : Recording) → recording_in options wave ≡ Ok r
    → IsRead options wave r
unfolding recording_in
is_read options wave r h = by_what (first_fault (steps options wave)) refl h
  where
    by_what : (o : Option WaveFault) → first_fault (steps options wave) ≡ o
        → unless_broken o (content_in options (wave_chunks (wave_window wave))) ≡ Ok r → IsRead options wave r
    by_what None e k = record { holds = e; is = cc }
    by_what (Some f) e k = absurd cc

pub recording_fits : (options : ReadOptions) (wave : List ℕ) (r : Recording) → FitsKey options.key → AreBytes wave
    → recording_in options wave ≡ Ok r → FitsRecording r
unfolding steps window_checks
recording_fits options wave r k b h =
    let read = is_read options wave r h in
    let past_riff = both_none (riff_checks wave) (window_checks options (wave_window wave)) read.holds in
    let walked = split_none _ _ _ past_riff.1 in
    rw (← read.is)
    (content_fits options (wave_chunks (wave_window wave)) k (chunks_bytes (wave_window wave) (window_bytes wave b))
    walked.1)

-- ---- the edits of an import

pub default_fits : FitsPitch default_pitch
default_fits = record { key = omega arith; correction = record { sfits = omega arith } }

-- the pitch of a recording, or else another
pub pitch_or_fits : (pitch : Option Pitch) (other : Pitch) → IfSome pitch FitsPitch → FitsPitch other
    → FitsPitch (unwrap_or pitch other)
pitch_or_fits None other f o = o
pitch_or_fits (Some p) other f o = f

sample_fits : (rate : ℕ) (sampler : Sampler) (name points : List ℕ) (k : Kind) → rate < 2 ^ 32 → FitsSampler sampler
    → IsName name → AreWords points → FitsKind k
    → FitsSample (sample_of rate sampler name points k)
sample_fits rate sampler name points k r s named p fits =
    let pitch = pitch_or_fits sampler.pitch default_pitch s.pitch default_fits in
    record {
      name = named;
      points = p;
      looped = s.looped;
      rate = r;
      key = pitch.key;
      correction = pitch.correction;
      kind = fits;
    }

pair_fits : (n : ℕ) (left right : Sample) → n ≤ SAMPLES → FitsSample left → FitsSample right
    → AllByRecursion FitsEdit (pair_edits n left right)
pair_fits n left right most l r = by_test (ltb n SAMPLES) refl
  where
    by_test : (b : Bool) → ltb n SAMPLES ≡ b
        → AllByRecursion FitsEdit
        (cond b (add_edit n left ∷ add_edit (n + 1) right ∷ One (Points n (SetKind (kind.Left (n + 1)))) ∷ [])
        (add_edit n left ∷ []))
    by_test true e =
        let lt = ltb-true n SAMPLES e in
        ((omega (arith, most), l), ((omega (arith, most), r), ((omega (arith, most), omega (arith, lt)), tt)))
    by_test false e = ((omega (arith, most), l), tt)

name_fits : (name side : List ℕ) → AreBytes name → length side ≡ 2 → AllByRecursion IsTextByte side
    → IsName (side_name name side)
name_fits name side b two s = side_named (before_zero (take 18 name)) side (truncated_text 18 name b) two s

mono_edits_fit : (n : ℕ) (name : List ℕ) (rate : ℕ) (sampler : Sampler) (points : List ℕ) → n ≤ SAMPLES
    → AreBytes name → rate < 2 ^ 32 → FitsSampler sampler → AreWords points
    → AllByRecursion FitsEdit (mono_edits n name rate sampler points)
mono_edits_fit n name rate sampler points most b r s p = (
  (omega (arith, most), sample_fits rate sampler (mono_name name) points kind.Mono r s (truncated_text 20 name b) p tt),
  tt,
)

channels_edits_fit : (n : ℕ) (name : List ℕ) (rate : ℕ) (sampler : Sampler) (ch : Channels) → n ≤ SAMPLES
    → AreBytes name → rate < 2 ^ 32 → FitsSampler sampler → FitChannels ch
    → AllByRecursion FitsEdit (channel_edits n name rate sampler ch)
channels_edits_fit n name rate sampler (Mono points) most b r s p =
    mono_edits_fit n name rate sampler points most b r s p
channels_edits_fit n name rate sampler (MonoSamples points) most b r s p =
    mono_edits_fit n name rate sampler points most b r s p
channels_edits_fit n name rate sampler (Stereo left_points right_points) most b r s p =
    let left = name_fits name (codes " L") b refl ((omega arith, omega arith), ((omega arith, omega arith), tt)) in
    let right = name_fits name (codes " R") b refl ((omega arith, omega arith), ((omega arith, omega arith), tt)) in
    pair_fits n _ _ most
    (sample_fits rate sampler (side_name name (codes " L")) left_points kind.Mono r s left p.0 tt)
    (sample_fits rate sampler (side_name name (codes " R")) right_points (kind.Right n) r s right p.1
    (omega (arith, most)))

pub imports_fit : (n : ℕ) (name : List ℕ) (r : Recording) → n ≤ SAMPLES → AreBytes name → FitsRecording r
    → AllByRecursion FitsEdit (import_edits n name r)
unfolding import_edits
imports_fit n name r most b f = channels_edits_fit n name r.rate r.sampler r.channels most b f.rate f.sampler f.channels
