-- The frames of a single channel in a file.
use Rattle.std.proofs.Common.{◌≡◌, ◌≤◌, ◌+◌, ◌-◌, ℕ, List, [], length, take, drop, true, false, Bool}
use Rattle.std.proofs.Common.{Option, Some, None, Ok, Err, refl, sym, ap, ◌∙◌, arith, length-take, inl, inr}
use Rattle.std.specs.Prelude.{unwrap_or, is_some, if◌then◌else◌, ◌==◌, IfSome, IsOk, IsErr, Result, ◌%◌, ◌↔◌}
use Rattle.std.specs.Result.{result_map_both}
use Rattle.std.proofs.lemmas.Bool.{cases_Bool, false≢true}
use Rattle.std.proofs.lemmas.List.{length-drop, drop-drop, drop-take, take-take}
use Rattle.riff_chunks.specs.Walk.{Chunk}
use Rattle.riff_chunks.specs.Finding.{first_body}
use Rattle.bank_format.specs.Chunks.{window, riff_size, body_in}
use Rattle.pcm_points.specs.declared.encoding.SampleEncoding.{SampleEncoding}
use Rattle.pcm_points.specs.declared.encoding.SampleEncoding.TheVariants.{Unsigned8, Signed16, Signed24, Signed32}
use Rattle.pcm_points.specs.declared.encoding.SampleEncoding.TheVariants.{Float32}
use Rattle.pcm_points.specs.Points.{channel_words}
use Rattle.wave_file.specs.declared.fault.WaveFault.{WaveFault}
use Rattle.wave_file.specs.declared.options.ReadOptions.{ReadOptions}
use Rattle.wave_file.specs.declared.recording.Layout.{Layout}
use Rattle.wave_file.specs.declared.recording.Channels.{Channels}
use Rattle.wave_file.specs.declared.recording.Channels.TheVariants.{Mono, MonoSamples, Stereo}
use Rattle.wave_file.specs.declared.recording.Format.{Format}
use Rattle.wave_file.specs.declared.recording.Recording.{Recording}
use Rattle.wave_file.specs.declared.recording.Sampler.{Sampler}
use Rattle.wave_file.specs.declared.data_range.ByteRange.{ByteRange}
use Rattle.wave_file.specs.declared.channel_frames.ChannelFrames.{ChannelFrames}
use Rattle.wave_file.specs.Wave.{FORMAT, DATA}
use Rattle.wave_file.specs.Streams.{is_streamed, wave_window, wave_chunks}
use Rattle.wave_file.specs.Recordings.{HasChannel, format_in, mono_in, channels_of, channels_in}
use Rattle.wave_file.specs.ReadChecks.{content_in}
use Rattle.wave_file.specs.Imports.{channel_edits, import_edits}
use Rattle.wave_file.specs.InPlace.{as_points, with_points, head_of, bytes_at, IsData, AreOf, AreFrames, frame_words}
use Rattle.wave_file.proofs.FitLaws.{is_read}

-- ---- a range of the window

-- bytes of a front are bytes of the whole
in_front : (n k size : ℕ) (bytes : List ℕ) → k + size ≤ length (take n bytes)
    → take size (drop k (take n bytes)) ≡ take size (drop k bytes)
in_front n k size bytes within =
    let long : k + size ≤ n = omega (arith, within, length-take n bytes) in
    let sum : n ≡ k + (n - k) = omega (arith, long) in
    ap (λ (m : ℕ). take size (drop k (take m bytes))) sum
    ∙ ap (take size) (drop-take k (n - k) bytes)
    ∙ take-take size (n - k) (drop k bytes) (omega (arith, long))

-- what follows 12 bytes
pub record After12 (w file : List ℕ) (range : ByteRange) : Type 0 where
  pub within : 12 + range.position + range.size ≤ length file
  pub bytes : bytes_at range w ≡ take range.size (drop (12 + range.position) file)

after_whole : (file : List ℕ) (range : ByteRange) → 8 ≤ range.position
    → range.position + range.size ≤ length (drop 12 file) → After12 (drop 12 file) file range
after_whole file range header within = record {
  within = omega (arith, within, header, length-drop 12 file);
  bytes = ap (take range.size) (drop-drop range.position 12 file);
}

after_front : (n : ℕ) (file : List ℕ) (range : ByteRange) → 8 ≤ range.position
    → range.position + range.size ≤ length (drop 12 (take n file)) → After12 (drop 12 (take n file)) file range
after_front n file range header within =
    let whole = after_whole (take n file) range header within in
    let front = whole.within in
    record {
      within = omega (arith, front, length-take n file);
      bytes = whole.bytes ∙ in_front n (12 + range.position) range.size file front;
    }

pub in_file : (file w : List ℕ) (range : ByteRange) → w ≡ wave_window file → 8 ≤ range.position
    → range.position + range.size ≤ length w → After12 w file range
unfolding wave_window window
in_file file w range is header within = elim (cases_Bool (is_streamed file)) [
  | inl streamed ↦ (
      let whole : w ≡ drop 12 file = is ∙ rw streamed refl in
      rw whole (after_whole file range header (rw whole at within)))
  | inr sized ↦ (
      let front : w ≡ drop 12 (take (8 + riff_size file) file) = is ∙ rw sized refl in
      rw front (after_front (8 + riff_size file) file range header (rw front at within)))
]

-- ---- the points

mono_points : (e : SampleEncoding) (n : ℕ) (points : List ℕ) → as_points (mono_in e n points) ≡ Mono points
mono_points Unsigned8 n points = refl
mono_points Signed24 n points = refl
mono_points Signed32 n points = refl
mono_points Float32 n points = refl
mono_points Signed16 n points = by_count (n == 1)
  where
    by_count : (b : Bool) → as_points (if b then Mono points else MonoSamples points) ≡ Mono points
    by_count true = refl
    by_count false = refl

-- the frames that a file's format and its first `data` chunk determine
pub frames_are : (options : ReadOptions) (file w : List ℕ) (chunks : List Chunk) (f : List ℕ) (format : Format)
    (range placed : ByteRange) (frames : ChannelFrames)
    → options.dither ≡ None → w ≡ wave_window file → chunks ≡ wave_chunks w → f ≡ body_in FORMAT chunks
    → format ≡ format_in options.channel f → HasChannel format.layout → IsData range w
    → placed.position ≡ 12 + range.position → placed.size ≡ range.size → AreOf frames format placed
    → AreFrames frames options file
unfolding content_in
frames_are options file w chunks f format range placed frames plain window_is chunks_are format_chunk format_is has found
    position size of =
    let after = in_file file w range window_is found.header found.within in
    let at : placed ≡ record { position = 12 + range.position; size = range.size } =
    λ i. record { position = position i; size = size i } in
    let ranges = of.same_range ∙ at in
    let bytes : bytes_at range w ≡ bytes_at frames.range file =
    after.bytes ∙ ap (λ (r : ByteRange). bytes_at r file) (sym ranges) in
    record {
      within =
          let p = ap (λ (r : ByteRange). r.position) ranges in
          let s = ap (λ (r : ByteRange). r.size) ranges in
          let within = after.within in
          omega (arith, p, s, within);
      channel = rw of.layout at has;
      count = of.count;
      room = of.room;
      points = λ r read.
          let is = (is_read options file r read).is in
          let all : chunks ≡ wave_chunks (wave_window file) = chunks_are ∙ ap wave_chunks window_is in
          let format_as : format ≡ format_in options.channel (body_in FORMAT (wave_chunks (wave_window file))) =
          format_is ∙ ap (format_in options.channel) (format_chunk ∙ ap (body_in FORMAT) all) in
          let body : body_in DATA (wave_chunks (wave_window file)) ≡ bytes_at range w =
          ap (λ o. unwrap_or o [])
          (ap (λ (v : List ℕ). first_body DATA (wave_chunks v)) (sym window_is) ∙ found.body) in
          let read_as : r.channels ≡ channels_in None format (bytes_at frames.range file) =
          ap (λ (x : Recording). x.channels) (sym is)
          ∙ (λ i. channels_in (plain i) (sym format_as i) ((body ∙ bytes) i)) in
          let mono : r.channels ≡ mono_in frames.encoding frames.channels (frame_words frames file) =
          read_as
          ∙ ap (λ (l : Layout). channels_of None l format.encoding (bytes_at frames.range file)) of.layout
          ∙ ap
          (λ (e : SampleEncoding).
          mono_in e frames.channels (channel_words e frames.channels frames.channel (bytes_at frames.range file)))
          (sym of.encoding) in
          ap as_points mono ∙ mono_points frames.encoding frames.channels (frame_words frames file);
    }

-- a value that may be missing
pub if_some : {X : Type 0} (o : Option X) (P Q : X → Type 0) → ((x : X) → P x → Q x) → IfSome o P → IfSome o Q
if_some None P Q f h = tt
if_some (Some x) P Q f h = f x h

pub is_missing : {X : Type 0} (o : Option X) (b : Bool) → b ≡ is_some o → b ≡ false → o ≡ None
is_missing None b is f = refl
is_missing (Some x) b is f = absurd (false≢true (sym f ∙ is))

-- ---- the recording

-- the recording with these points, by its rate and its `smpl` chunk
pub frames_read : (due : Result Recording WaveFault) (rate : ℕ) (sampler : Sampler) (points : List ℕ)
    → Ok (rate, sampler) ≡ head_of due → ((r : Recording) → due ≡ Ok r → as_points r.channels ≡ Mono points)
    → result_map_both with_points (λ fault. fault) due
    ≡ Ok (record { channels = Mono points; rate = rate; sampler = sampler })
frames_read (Ok r) rate sampler points head are =
    let same : ◌≡◌ {A = ℕ × Sampler} (rate, sampler) (r.rate, r.sampler) = cc in
    λ i. Ok (record { channels = are r refl i; rate = (sym same i).0; sampler = (sym same i).1 })
frames_read (Err fault) rate sampler points head are = absurd cc

-- an even number of bytes is one of points
pub even_is_ok : {X E : Type 0} (r : Result X E) (n : ℕ) → IsErr r ↔ (n % 2 ≡ 1) → n % 2 ≡ 0 → IsOk r
even_is_ok (Ok x) n odd even = refl
even_is_ok (Err e) n odd even = absurd (let one = odd.0 refl in omega (arith, one, even))

-- no edit of an import depends on whether samples are converted
pub import_points : (n : ℕ) (name : List ℕ) (r : Recording) → import_edits n name r ≡ import_edits n name (with_points r)
unfolding import_edits
import_points n name r = by_channels r.channels
  where
    by_channels : (channels : Channels)
        → channel_edits n name r.rate r.sampler channels ≡ channel_edits n name r.rate r.sampler (as_points channels)
    by_channels (Mono points) = refl
    by_channels (MonoSamples points) = refl
    by_channels (Stereo left right) = refl
