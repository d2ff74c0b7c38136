-- A WAVE file that is written as chunks is read as these chunks.
use Rattle.std.proofs.Common.{◌≡◌, ◌<◌, ◌+◌, ◌^◌, ℕ, true, false, List, ◌++◌, length, drop, None}
use Rattle.std.proofs.Common.{refl, sym, ap, ◌∙◌, take-append-drop, arith}
use Rattle.std.specs.List.{AllByRecursion}
use Rattle.std.proofs.lemmas.Bool.{false_from_ne_true}
use Rattle.std.proofs.lemmas.Slice.Eq.{bytes_eq-Decides}
use Rattle.byteorder.specs.Endian.{little_number}
use Rattle.riff_chunks.specs.Walk.{Chunk, walk}
use Rattle.riff_chunks.specs.Finding.{is_whole}
use Rattle.riff_chunks.specs.Encoding.{pad, chunk, encode, FitsChunk}
use Rattle.riff_chunks.proofs.EncodingLaws.{chunk_head-Headed, chunks_in-encode, is_whole-encode}
use Rattle.bank_format.specs.Chunks.{window}
use Rattle.bank_format.specs.FaultChecks.{first_fault}
use Rattle.bank_format.specs.Ids.{RIFF}
use Rattle.bank_format.specs.ReadChecks.{form_checks}
use Rattle.bank_format.proofs.CheckLaws.{first_fault-append}
use Rattle.bank_format.proofs.FormLaws.{form_window, form_holds}
use Rattle.wave_file.specs.Wave.{WAVE}
use Rattle.wave_file.specs.Streams.{UNKNOWN, is_streamed, wave_window, wave_chunks}
use Rattle.wave_file.specs.declared.fault.WaveFault.TheVariants.{NotWave, Truncated}
use Rattle.wave_file.specs.declared.options.ReadOptions.{ReadOptions}
use Rattle.wave_file.specs.ReadChecks.{riff_checks, content_checks, content_in, window_checks, steps, unless_broken}
use Rattle.wave_file.specs.ReadChecks.{recording_in}
use Rattle.wave_file.proofs.SampleLaws.{length-ids}

-- a chunk whose size is less than the unknown one
known_size : (id body : List ℕ) → length id ≡ 4 → length body + 1 < 2 ^ 32 → is_streamed (chunk id body) ≡ false
unfolding UNKNOWN
known_size id body four small =
    let n = length body in
    let headed = chunk_head-Headed id n (body ++ pad n) four (omega (arith, small)) in
    false_from_ne_true (is_streamed (chunk id body))
    (λ e.
    let sized = drop 4 (chunk id body) in
    let unknown : sized ≡ UNKNOWN ++ drop 4 sized =
    sym (take-append-drop 4 sized) ∙ ap (λ (size : List ℕ). size ++ drop 4 sized) ((bytes_eq-Decides _ UNKNOWN).0 e) in
    let is = ap (little_number 4) unknown in
    let size = headed.sized in
    omega (arith, is, size, small))

length-RIFF : length RIFF ≡ 4
unfolding RIFF
length-RIFF = refl

module _ (cs : List Chunk) (fit : AllByRecursion FitsChunk cs) (small : length (WAVE ++ encode cs) + 1 < 2 ^ 32)
    (options : ReadOptions) (file : List ℕ) (is : file ≡ chunk RIFF (WAVE ++ encode cs)) where
  size_known : is_streamed file ≡ false
  size_known = ap is_streamed is ∙ known_size RIFF (WAVE ++ encode cs) length-RIFF small

  form_small : length (WAVE ++ encode cs) < 2 ^ 32
  form_small = omega (arith, small)

  window_is : wave_window file ≡ encode cs
  unfolding wave_window
  window_is =
      let found : window file ≡ encode cs = ap window is ∙ form_window WAVE (encode cs) length-ids.1 form_small in
      rw size_known found

  walked : is_whole (walk (encode cs)) ≡ true
  walked = is_whole-encode cs fit

  chunks_are : wave_chunks (encode cs) ≡ cs
  unfolding wave_chunks
  chunks_are = rw walked (chunks_in-encode cs fit)

  riff_holds : first_fault (riff_checks file) ≡ None
  unfolding riff_checks
  riff_holds =
      let found : first_fault (form_checks WAVE NotWave Truncated NotWave file) ≡ None =
      ap (λ (bytes : List ℕ). first_fault (form_checks WAVE NotWave Truncated NotWave bytes)) is
      ∙ form_holds WAVE (encode cs) length-ids.1 form_small NotWave Truncated NotWave in
      rw size_known found

  window_checked : first_fault (window_checks options (encode cs)) ≡ first_fault (content_checks options cs)
  unfolding window_checks
  window_checked = rw walked (ap (λ (chunks : List Chunk). first_fault (content_checks options chunks)) chunks_are)

  pub written_reads : recording_in options file
      ≡ unless_broken (first_fault (content_checks options cs)) (content_in options cs)
  unfolding recording_in steps
  written_reads =
      let faults =
      first_fault-append (riff_checks file) (window_checks options (wave_window file)) riff_holds
      ∙ ap (λ (w : List ℕ). first_fault (window_checks options w)) window_is ∙ window_checked in
      let content = ap (λ (w : List ℕ). content_in options (wave_chunks w)) window_is ∙ ap (content_in options) chunks_are
      in
      λ i. unless_broken (faults i) (content i)
