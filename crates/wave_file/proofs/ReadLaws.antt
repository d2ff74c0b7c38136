-- The parts of the reader make the reading of the whole file.
use Rattle.std.proofs.Common.{◌≡◌, ℕ, List, [], ◌++◌, Option, Some, None, Result, Ok, Err, sym, ap, subst, ◌∙◌}
use Rattle.std.specs.Prelude.{unwrap_or}
use Rattle.std.specs.Result.{IsErrAnd}
use Rattle.riff_chunks.specs.Walk.{Chunk}
use Rattle.riff_chunks.specs.Finding.{first_body}
use Rattle.bank_format.specs.Chunks.{body_in}
use Rattle.wave_file.specs.Wave.{FORMAT, DATA}
use Rattle.wave_file.specs.SampleWave.{SAMPLER}
use Rattle.wave_file.specs.Streams.{wave_window, wave_chunks}
use Rattle.wave_file.specs.declared.fault.WaveFault.{WaveFault}
use Rattle.wave_file.specs.declared.options.ReadOptions.{ReadOptions}
use Rattle.wave_file.specs.declared.recording.Format.{Format}
use Rattle.wave_file.specs.declared.recording.Channels.{Channels}
use Rattle.wave_file.specs.declared.recording.Sampler.{Sampler}
use Rattle.wave_file.specs.declared.recording.Recording.{Recording}
use Rattle.bank_format.specs.FaultChecks.{Check, first_fault, Passes}
use Rattle.wave_file.specs.Recordings.{format_in, channels_in, frame_count, sampler_in, with_key}
use Rattle.wave_file.specs.ReadChecks.{riff_checks, format_checks, data_checks, sampler_checks, content_checks}
use Rattle.wave_file.specs.ReadChecks.{walk_checks}
use Rattle.wave_file.specs.ReadChecks.{window_checks, content_in, steps, unless_broken, recording_in}
use Rattle.bank_format.proofs.CheckLaws.{first_fault-append, first_fault-front, passes_by, passes_front, passes_after}

abbrev window_recording : ReadOptions → List ℕ → Recording
window_recording options w = content_in options (wave_chunks w)

-- the RIFF chunk has a fault
pub riff_fails : (options : ReadOptions) (file : List ℕ) (r : Result Recording WaveFault) (f : WaveFault)
    → IsErrAnd r (λ e. e ≡ f) → first_fault (riff_checks file) ≡ Some f
    → r ≡ recording_in options file
unfolding recording_in steps
riff_fails options file (Ok x) f is h = absurd is
riff_fails options file (Err e) f is h =
    ap (λ (x : WaveFault). Err x) is
    ∙ sym
    (ap (λ (o : Option WaveFault). unless_broken o (window_recording options (wave_window file)))
    (first_fault-front (riff_checks file) (window_checks options (wave_window file)) f h))

-- the result of reading the window is that of the file
pub window_result : (options : ReadOptions) (file w : List ℕ) (r : Result Recording WaveFault)
    → first_fault (riff_checks file) ≡ None → w ≡ wave_window file
    → Passes (λ (x : Recording). x) r (window_checks options w) (window_recording options w)
    → r ≡ recording_in options file
unfolding recording_in steps
window_result options file w (Ok x) h e p =
    let whole : first_fault (steps options file) ≡ None =
    first_fault-append (riff_checks file) (window_checks options (wave_window file)) h
    ∙ ap (λ (v : List ℕ). first_fault (window_checks options v)) (sym e) ∙ p.0 in
    ap (λ (y : Recording). Ok y) p.1
    ∙ ap (λ (v : List ℕ). Ok (window_recording options v)) e
    ∙ sym (ap (λ (o : Option WaveFault). unless_broken o (window_recording options (wave_window file))) whole)
window_result options file w (Err f) h e p =
    let whole : first_fault (steps options file) ≡ Some f =
    first_fault-append (riff_checks file) (window_checks options (wave_window file)) h
    ∙ ap (λ (v : List ℕ). first_fault (window_checks options v)) (sym e) ∙ p in
    sym (ap (λ (o : Option WaveFault). unless_broken o (window_recording options (wave_window file))) whole)

-- a body that does not fit
pub chunks_fail : (options : ReadOptions) (w : List ℕ) (r : Result Recording WaveFault) (f : WaveFault)
    → IsErrAnd r (λ e. e ≡ f) → first_fault (walk_checks w) ≡ Some f
    → Passes (λ (x : Recording). x) r (window_checks options w) (window_recording options w)
unfolding window_checks
chunks_fail options w r f is h =
    passes_front (λ (x : Recording). x) (window_recording options w) r f (walk_checks w)
    (content_checks options (wave_chunks w)) is h

-- the result of reading the chunks is that of the window
pub chunks_result : (options : ReadOptions) (w : List ℕ) (chunks : List Chunk) (r : Result Recording WaveFault)
    → first_fault (walk_checks w) ≡ None → chunks ≡ wave_chunks w
    → Passes (λ (x : Recording). x) r (content_checks options chunks) (content_in options chunks)
    → Passes (λ (x : Recording). x) r (window_checks options w) (window_recording options w)
unfolding window_checks
chunks_result options w chunks r h e p =
    passes_after (λ (x : Recording). x) (window_recording options w) r (walk_checks w)
    (content_checks options (wave_chunks w)) h
    (subst
    (λ (cs : List Chunk). Passes (λ (x : Recording). x) r (content_checks options cs) (content_in options cs)) e p)

-- ---- the chunks

pub record HasFormat (options : ReadOptions) (chunks : List Chunk) (format : Format) : Type 0 where
  pub holds : first_fault (format_checks options.channel (body_in FORMAT chunks)) ≡ None
  pub is : format ≡ format_in options.channel (body_in FORMAT chunks)

pub has_format : (options : ReadOptions) (chunks : List Chunk) (f : List ℕ) (format : Format)
    → f ≡ body_in FORMAT chunks → first_fault (format_checks options.channel f) ≡ None
    → format ≡ format_in options.channel f → HasFormat options chunks format
has_format options chunks f format e h is =
    record {
      holds = ap (λ (x : List ℕ). first_fault (format_checks options.channel x)) (sym e) ∙ h;
      is = is ∙ ap (format_in options.channel) e;
    }

pub record HasData (options : ReadOptions) (chunks : List Chunk) (format : Format) (found : Channels) : Type 0 where
  pub holds : first_fault (data_checks format (first_body DATA chunks)) ≡ None
  pub is : found ≡ channels_in options.dither format (body_in DATA chunks)

pub has_data : (options : ReadOptions) (chunks : List Chunk) (format : Format) (o : Option (List ℕ)) (found : Channels)
    → o ≡ first_body DATA chunks → first_fault (data_checks format o) ≡ None
    → found ≡ channels_in options.dither format (unwrap_or o []) → HasData options chunks format found
has_data options chunks format o found e h is = record {
  holds = ap (λ (x : Option (List ℕ)). first_fault (data_checks format x)) (sym e) ∙ h;
  is = is ∙ ap (λ (x : Option (List ℕ)). channels_in options.dither format (unwrap_or x [])) e;
}

module _ (options : ReadOptions) (chunks : List Chunk) (r : Result Recording WaveFault) where
  abbrev f : List ℕ
  f = body_in FORMAT chunks

  abbrev last_checks : List (Check WaveFault)
  last_checks =
      sampler_checks (frame_count (channels_in options.dither (format_in options.channel f) (body_in DATA chunks)))
      (first_body SAMPLER chunks)

  abbrev Reads : Type 0
  Reads = Passes (λ (x : Recording). x) r (content_checks options chunks) (content_in options chunks)

  pub format_fails : (bytes : List ℕ) (e : WaveFault) → bytes ≡ body_in FORMAT chunks → IsErrAnd r (λ d. d ≡ e)
      → first_fault (format_checks options.channel bytes) ≡ Some e → Reads
  unfolding content_checks
  format_fails bytes e same is h =
      passes_front (λ (x : Recording). x) (content_in options chunks) r e (format_checks options.channel f)
      (data_checks (format_in options.channel f) (first_body DATA chunks) ++ last_checks) is
      (ap (λ (x : List ℕ). first_fault (format_checks options.channel x)) (sym same) ∙ h)

  pub data_fails : (format : Format) (o : Option (List ℕ)) (e : WaveFault) → HasFormat options chunks format
      → o ≡ first_body DATA chunks → IsErrAnd r (λ d. d ≡ e)
      → first_fault (data_checks format o) ≡ Some e → Reads
  unfolding content_checks
  data_fails format o e has same is h =
      let l : format_in options.channel f ≡ format = sym has.is in
      passes_after (λ (x : Recording). x) (content_in options chunks) r (format_checks options.channel f)
      (data_checks (format_in options.channel f) (first_body DATA chunks) ++ last_checks) has.holds
      (passes_front (λ (x : Recording). x) (content_in options chunks) r e
      (data_checks (format_in options.channel f) (first_body DATA chunks)) last_checks is
      ((λ i. first_fault (data_checks (l i) (sym same i))) ∙ h))

  -- the checks of the `smpl` chunk, if all others hold
  pub sampler_left : (format : Format) (found : Channels) → HasFormat options chunks format
      → HasData options chunks format found
      → Passes (λ (x : Recording). x) r last_checks (content_in options chunks) → Reads
  unfolding content_checks
  sampler_left format found has there p =
      let l : format_in options.channel f ≡ format = sym has.is in
      passes_after (λ (x : Recording). x) (content_in options chunks) r (format_checks options.channel f)
      (data_checks (format_in options.channel f) (first_body DATA chunks) ++ last_checks) has.holds
      (passes_after (λ (x : Recording). x) (content_in options chunks) r (data_checks (format_in options.channel f)
      (first_body DATA chunks)) last_checks
      (ap (λ (x : Format). first_fault (data_checks x (first_body DATA chunks))) l ∙ there.holds) p)

-- the number of frames
counted : (options : ReadOptions) (chunks : List Chunk) (format : Format) (found : Channels)
    → HasFormat options chunks format → HasData options chunks format found
    → frame_count found
    ≡ frame_count (channels_in options.dither (format_in options.channel (body_in FORMAT chunks)) (body_in DATA chunks))
counted options chunks format found has there =
    ap frame_count there.is ∙ ap (λ (x : Format). frame_count (channels_in options.dither x (body_in DATA chunks))) has.is

pub sampler_fails : (options : ReadOptions) (chunks : List Chunk) (r : Result Recording WaveFault) (format : Format)
    (found : Channels) (n : ℕ) (o : Option (List ℕ)) (e : WaveFault)
    → HasFormat options chunks format → HasData options chunks format found
    → n ≡ frame_count found → o ≡ first_body SAMPLER chunks → IsErrAnd r (λ d. d ≡ e)
    → first_fault (sampler_checks n o) ≡ Some e
    → Passes (λ (x : Recording). x) r (content_checks options chunks) (content_in options chunks)
sampler_fails options chunks r format found n o e has there count same is h =
    let k = count ∙ counted options chunks format found has there in
    sampler_left options chunks r format found has there
    (passes_by (λ (x : Recording). x) (content_in options chunks) r e _ is
    ((λ i. first_fault (sampler_checks (sym k i) (sym same i))) ∙ h))

pub content_reads : (options : ReadOptions) (chunks : List Chunk) (format : Format) (found : Channels) (n : ℕ)
    (o : Option (List ℕ)) (found_sampler sampler : Sampler)
    → HasFormat options chunks format → HasData options chunks format found
    → n ≡ frame_count found → o ≡ first_body SAMPLER chunks → first_fault (sampler_checks n o) ≡ None
    → found_sampler ≡ sampler_in o → sampler ≡ with_key options.key found_sampler
    → Passes (λ (x : Recording). x) (Ok (record { channels = found; rate = format.rate; sampler = sampler }))
    (content_checks options chunks) (content_in options chunks)
unfolding content_in
content_reads options chunks format found n o found_sampler sampler has there count same h is keyed =
    let k = count ∙ counted options chunks format found has there in
    let rate : format.rate ≡ (format_in options.channel (body_in FORMAT chunks)).rate =
    ap (λ (x : Format). x.rate) has.is in
    let channels = there.is ∙ ap (λ (x : Format). channels_in options.dither x (body_in DATA chunks)) has.is in
    let chunk = keyed ∙ ap (with_key options.key) (is ∙ ap sampler_in same) in
    let read : Recording = record { channels = found; rate = format.rate; sampler = sampler } in
    let content_same : read ≡ content_in options chunks =
    λ i. record { channels = channels i; rate = rate i; sampler = chunk i } in
    sampler_left options chunks (Ok read) format found has there
    ((λ i. first_fault (sampler_checks (sym k i) (sym same i))) ∙ h, content_same)
