-- The WAVE file of a sample reads back as the sample.
use Rattle.std.proofs.Common.{◌≡◌, ◌≤◌, ◌<◌, ◌+◌, ◌-◌, ◌%◌, ◌^◌, ℕ, ℤ, pos, negsuc, true, cond, leb, ltb, eqb}
use Rattle.std.proofs.Common.{◌&&◌, min, List, [], ◌∷◌, ◌++◌, length, drop, codes, Option, Some, None, Ok, FitsSigned}
use Rattle.std.proofs.Common.{refl, ap, ◌∙◌, arith}
use Rattle.std.specs.Prelude.{bytes_eq, unwrap_or}
use Rattle.std.specs.Option.{option_map}
use Rattle.std.specs.Int.{w8, cast_unsigned}
use Rattle.std.specs.List.{AllByRecursion, flat_map}
use Rattle.std.proofs.lemmas.Bool.{eq-eqb, le-leb, lt-ltb}
use Rattle.std.proofs.lemmas.Int.{to_z-of_z}
use Rattle.byteorder.specs.Numbers.{little_number-reads_back}
use Rattle.sf_base.specs.declared.limits.TheConstants.{POINTS}
use Rattle.sample_view.specs.Words.{word_bytes}
use Rattle.sample_view.proofs.WordLaws.{length-word_bytes}
use Rattle.pcm_points.specs.declared.encoding.SampleEncoding.TheVariants.{Signed16}
use Rattle.pcm_points.proofs.ChannelLaws.{words_stay}
use Rattle.riff_chunks.specs.Finding.{first_body}
use Rattle.riff_chunks.specs.Encoding.{chunk, encode, FitsChunk}
use Rattle.bank_parts.specs.declared.parts.Sample.{Sample}
use Rattle.bank_parts.specs.Valid.{IsLoop}
use Rattle.bank_parts.specs.Fits.{FitsSample, FitsLoop}
use Rattle.bank_format.specs.Chunks.{body_in}
use Rattle.bank_format.specs.Ids.{RIFF}
use Rattle.wave_file.specs.Wave as wave
use Rattle.wave_file.specs.Wave.{WAVE, FORMAT, DATA}
use Rattle.wave_file.specs.SamplerPitch.{pitch, unity_note, pitch_fraction}
use Rattle.wave_file.specs.SampleWave.{SAMPLER, numbers, mono_format, frame_time, loop_count, sampler_head}
use Rattle.wave_file.specs.SampleWave.{loop_bytes, stored_pitch, sampler, sample_chunks, sample_wave}
use Rattle.wave_file.proofs.SampleLaws.{length-ids, length-mono_format, length-sampler, length-content}
use Rattle.wave_file.proofs.WrittenLaws.{written_reads}
use Rattle.wave_file.specs.declared.sampler_loop.SamplerLoop.{SamplerLoop}
use Rattle.wave_file.specs.declared.recording.Layout.TheVariants as layout
use Rattle.wave_file.specs.declared.recording.Format.{Format}
use Rattle.wave_file.specs.declared.recording.Channels.TheVariants.{Mono}
use Rattle.wave_file.specs.declared.recording.Pitch.{Pitch}
use Rattle.bank_format.specs.FaultChecks.{first_fault}
use Rattle.wave_file.specs.Recordings.{format_in, channels_in, frame_count, forward_loop, ends_of}
use Rattle.wave_file.specs.Recordings.{unity_note_in, fraction_in, data_in, pitch_of_stored, is_stored, stored_in, pitch_of}
use Rattle.wave_file.specs.Recordings.{as_stored, sampler_in}
use Rattle.wave_file.specs.ReadChecks.{format_checks, frame_checks, data_checks, has_loops, loop_checks}
use Rattle.wave_file.specs.ReadChecks.{chunk_checks, sampler_checks, content_checks, content_in}
use Rattle.wave_file.specs.ReadChecks.{unless_broken, recording_in}
use Rattle.wave_file.specs.Laws.{recorded, WavesReadBack}
use Rattle.bank_format.proofs.CheckLaws.{then_none}
use Rattle.bank_format.proofs.FormLaws.{same_bytes}

-- ---- the `smpl` chunk

abbrev head : ℕ → ℕ → ℕ → ℕ → List ℕ
head time note fraction loops = numbers (0 ∷ 0 ∷ time ∷ note ∷ fraction ∷ 0 ∷ 0 ∷ loops ∷ 8 ∷ [])

abbrev stored : ℕ → ℕ → List ℕ
stored key byte = codes "sfbk" ++ (key ∷ byte ∷ 0 ∷ 0 ∷ [])

-- the fields of such a chunk
record SamplerFields (b : List ℕ) (note fraction : ℕ) (inner : List ℕ) (found : Option SamplerLoop) : Type 0 where
  whole : has_loops b ≡ true
  bytes : data_in b ≡ inner
  note_is : unity_note_in b ≡ note
  fraction_is : fraction_in b ≡ fraction
  found_is : forward_loop b ≡ found

fields_without_loop : (time note fraction key byte : ℕ) → note < 2 ^ 32 → fraction < 2 ^ 32
    → SamplerFields (head time note fraction 0 ++ ([] ++ stored key byte)) note fraction (stored key byte) None
fields_without_loop time note fraction key byte n f = record {
  whole = refl;
  bytes = refl;
  note_is = little_number-reads_back 4 note (drop 16 (head time note fraction 0 ++ ([] ++ stored key byte))) n;
  fraction_is = little_number-reads_back 4 fraction (drop 20 (head time note fraction 0 ++ ([] ++ stored key byte))) f;
  found_is = refl;
}

abbrev one_loop : ℕ → ℕ → List ℕ
one_loop first last = numbers (0 ∷ 0 ∷ first ∷ last ∷ 0 ∷ 0 ∷ [])

fields_with_loop : (time note fraction key byte first last : ℕ) → note < 2 ^ 32 → fraction < 2 ^ 32 → first < 2 ^ 32
    → last < 2 ^ 32
    → SamplerFields (head time note fraction 1 ++ (one_loop first last ++ stored key byte)) note fraction (stored key byte)
    (Some (record { kind = 0; first = first; last = last }))
fields_with_loop time note fraction key byte first last n f a l =
    let b = head time note fraction 1 ++ (one_loop first last ++ stored key byte) in
    let first_is = little_number-reads_back 4 first (drop 48 b) a in
    let last_is = little_number-reads_back 4 last (drop 52 b) l in
    record {
      whole = refl;
      bytes = refl;
      note_is = little_number-reads_back 4 note (drop 16 b) n;
      fraction_is = little_number-reads_back 4 fraction (drop 20 b) f;
      found_is = λ i. Some (record { kind = 0; first = first_is i; last = last_is i });
    }

-- the key and the correction are stored
stored_back : (b : List ℕ) (key : ℕ) (c : ℤ) → FitsSigned w8 c → data_in b ≡ stored_pitch key c
    → unity_note_in b ≡ unity_note key c → fraction_in b ≡ pitch_fraction key c
    → stored_in b ≡ Some (record { key = key; correction = c })
unfolding stored_pitch
stored_back b key c fits e n f =
    let p : pitch_of_stored (data_in b) ≡ record { key = key; correction = c } =
    ap pitch_of_stored e ∙ (λ i. record { key = key; correction = to_z-of_z w8 c fits i }) in
    let long : eqb (length (data_in b)) 8 ≡ true = ap (λ (x : List ℕ). eqb (length x) 8) e in
    let t1 : bytes_eq (data_in b) (stored_pitch key c) ≡ true = same_bytes _ _ e in
    let t2 : eqb (unity_note_in b) (unity_note key c) ≡ true = eq-eqb _ _ n in
    let t3 : eqb (fraction_in b) (pitch_fraction key c) ≡ true = eq-eqb _ _ f in
    let own : is_stored b (record { key = key; correction = c }) ≡ true = rw (t1, t2, t3) refl in
    let all : is_stored b (pitch_of_stored (data_in b)) ≡ true = ap (is_stored b) p ∙ own in
    (λ i. cond (long i && all i) (Some (p i)) None)

pitch_small : (key : ℕ) (c : ℤ) → pitch key c ≤ 12799
pitch_small key (pos up) = omega arith
pitch_small key (negsuc down) = omega arith

-- the fields of the `smpl` chunk of a sample
record SamplerOfSample (b : List ℕ) (n key : ℕ) (c : ℤ) (looped : Option (ℕ × ℕ)) : Type 0 where
  holds : first_fault (chunk_checks n b) ≡ None
  is : sampler_in (Some b) ≡ record { pitch = Some (record { key = key; correction = c }); looped = looped }

-- a loop among `n` points, if there is one
record Found (n : ℕ) (looped : Option (ℕ × ℕ)) (found : Option SamplerLoop) : Type 0 where
  inside : first_fault (loop_checks n found) ≡ None
  ends : option_map ends_of found ≡ looped

sampler_of_sample : (b : List ℕ) (n key : ℕ) (c : ℤ) (looped : Option (ℕ × ℕ)) (found : Option SamplerLoop) → FitsSigned w8 c
    → SamplerFields b (unity_note key c) (pitch_fraction key c) (stored_pitch key c) found → Found n looped found
    → SamplerOfSample b n key c looped
unfolding chunk_checks
sampler_of_sample b n key c looped found fits s o =
    let most = pitch_small key c in
    let low : leb (unity_note_in b) 127 ≡ true = le-leb _ _ (let e = s.note_is in omega (arith, e, most)) in
    let h = stored_back b key c fits s.bytes s.note_is s.fraction_is in
    let pitch_is : pitch_of (stored_in b) b ≡ record { key = key; correction = c } =
    ap (λ (x : Option Pitch). pitch_of x b) h in
    let loop_is : option_map ends_of (forward_loop b) ≡ looped =
    ap (λ (x : Option SamplerLoop). option_map ends_of x) s.found_is ∙ o.ends in
    let loop_holds : first_fault (loop_checks n (forward_loop b)) ≡ None =
    ap (λ (x : Option SamplerLoop). first_fault (loop_checks n x)) s.found_is ∙ o.inside in
    record { holds = rw (s.whole, low) loop_holds; is = λ i. record { pitch = Some (pitch_is i); looped = loop_is i } }

no_loop : (n : ℕ) → Found n None None
no_loop n = record { inside = refl; ends = refl }

a_loop : (n first end : ℕ) → first < end → end ≤ n → n ≤ POINTS
    → Found n (Some (first, end)) (Some (record { kind = 0; first = first; last = end - 1 }))
a_loop n first end some in_it most =
    let t1 : leb first (end - 1) ≡ true = le-leb _ _ (omega (arith, some)) in
    let t2 : ltb (end - 1) (min n (2 ^ 32 - 1)) ≡ true = lt-ltb _ _ (omega (arith, some, in_it, most)) in
    let e : (end - 1) + 1 ≡ end = omega (arith, some) in
    record { inside = rw (t1, t2) refl; ends = λ i. Some (first, e i) }

-- a `smpl` chunk, by its parts
abbrev sampler_of : ℕ → ℕ → ℤ → Option (ℕ × ℕ) → List ℕ
sampler_of time key c looped =
    head time (unity_note key c) (pitch_fraction key c) (loop_count looped)
    ++ (loop_bytes looped ++ stored_pitch key c)

sampler_back : (n time key : ℕ) (c : ℤ) (looped : Option (ℕ × ℕ)) → FitsSigned w8 c → FitsLoop looped
    → IsLoop n looped → n ≤ POINTS
    → SamplerOfSample (sampler_of time key c looped) n key c looped
unfolding loop_bytes stored_pitch
sampler_back n time key c None fits f l most =
    let p = pitch_small key c in
    sampler_of_sample (sampler_of time key c None) n key c None None fits
    (fields_without_loop time (unity_note key c) (pitch_fraction key c) key (cast_unsigned w8 c) (omega (arith, p))
    (omega arith))
    (no_loop n)
sampler_back n time key c (Some looped) fits f l most =
    let p = pitch_small key c in
    let some = l.0 in
    let end = f.1 in
    let start = f.0 in
    sampler_of_sample (sampler_of time key c (Some looped)) n key c (Some looped)
    (Some (record { kind = 0; first = looped.0; last = looped.1 - 1 })) fits
    (fields_with_loop time (unity_note key c) (pitch_fraction key c) key (cast_unsigned w8 c) looped.0 (looped.1 - 1)
    (omega (arith, p)) (omega arith) start (omega (arith, end)))
    (a_loop n looped.0 looped.1 some l.1 most)

-- ---- the chunks of a sample

pub loop_count_small : (looped : Option (ℕ × ℕ)) → loop_count looped ≤ 1
loop_count_small None = omega arith
loop_count_small (Some looped) = omega arith

format_holds : (rate : ℕ) → first_fault (format_checks None (mono_format rate)) ≡ None
unfolding format_checks mono_format
format_holds rate = refl

abbrev written_format : ℕ → Format
written_format rate = record { layout = layout.Mono 1 0; encoding = Signed16; rate = rate }

format_back : (rate : ℕ) → rate < 2 ^ 32 → format_in None (mono_format rate) ≡ written_format rate
unfolding mono_format
format_back rate lt =
    let e = little_number-reads_back 4 rate (drop 8 (mono_format rate)) lt in
    λ i. record { layout = layout.Mono 1 0; encoding = Signed16; rate = e i }

module _ (s : Sample) (f : FitsSample s) (l : IsLoop (length s.points) s.looped) (most : length s.points ≤ POINTS) where
  form_small : length (WAVE ++ encode (sample_chunks s)) + 1 < 2 ^ 32
  form_small =
      let a = length-content s in
      let b = length-sampler s in let c = loop_count_small s.looped in omega (arith, a, b, c, most)

  chunks_fit : AllByRecursion FitsChunk (sample_chunks s)
  unfolding sample_chunks
  chunks_fit =
      let ids = length-ids in
      let a = length-mono_format s.rate in
      let b = length-sampler s in
      let c = loop_count_small s.looped in
      let d = length-word_bytes s.points in (
        record { id = ids.2; body = omega (arith, a) },
        (record { id = ids.3; body = omega (arith, b, c) }, (record { id = ids.4; body = omega (arith, d, most) }, tt)),
      )

  wave_is : sample_wave s ≡ chunk RIFF (WAVE ++ encode (sample_chunks s))
  unfolding sample_wave RIFF wave.RIFF
  wave_is = refl

  -- ---- its chunks

  abbrev points : List ℕ
  points = flat_map word_bytes s.points

  format_found : body_in FORMAT (sample_chunks s) ≡ mono_format s.rate
  unfolding sample_chunks FORMAT
  format_found = refl

  data_found : first_body DATA (sample_chunks s) ≡ Some points
  unfolding sample_chunks FORMAT SAMPLER DATA
  data_found = refl

  sampler_found : first_body SAMPLER (sample_chunks s) ≡ Some (sampler s)
  unfolding sample_chunks FORMAT SAMPLER
  sampler_found = refl

  sampler_is_sample : SamplerOfSample (sampler s) (length s.points) s.key s.correction s.looped
  unfolding sampler_head
  sampler_is_sample = sampler_back (length s.points) (frame_time s.rate) s.key s.correction s.looped f.correction f.looped l most

  channels_back : channels_in None (written_format s.rate) points ≡ Mono s.points
  channels_back = ap (λ (x : List ℕ). Mono x) (words_stay s.points f.points)

  data_holds : first_fault (data_checks (written_format s.rate) (Some points)) ≡ None
  unfolding data_checks frame_checks
  data_holds =
      let even : eqb (length points % 2) 0 ≡ true =
      eq-eqb _ _ (let a = length-word_bytes s.points in omega (arith, a)) in
      rw even refl

  format_is : format_in None (body_in FORMAT (sample_chunks s)) ≡ written_format s.rate
  format_is = ap (format_in None) format_found ∙ format_back s.rate f.rate

  channels_are : channels_in None (format_in None (body_in FORMAT (sample_chunks s))) (body_in DATA (sample_chunks s))
      ≡ Mono s.points
  channels_are = (λ i. channels_in None (format_is i) (unwrap_or (data_found i) [])) ∙ channels_back

  content_holds : first_fault (content_checks as_stored (sample_chunks s)) ≡ None
  unfolding content_checks
  content_holds =
      let counted : frame_count
      (channels_in None (format_in None (body_in FORMAT (sample_chunks s))) (body_in DATA (sample_chunks s)))
      ≡ length s.points =
      ap frame_count channels_are in
      then_none (format_checks None (body_in FORMAT (sample_chunks s))) _
      (ap (λ (x : List ℕ). first_fault (format_checks None x)) format_found ∙ format_holds s.rate)
      (then_none (data_checks (format_in None (body_in FORMAT (sample_chunks s)))
      (first_body DATA (sample_chunks s))) _ ((λ i. first_fault (data_checks (format_is i) (data_found i))) ∙
      data_holds)
      ((λ i. first_fault (sampler_checks (counted i) (sampler_found i))) ∙ sampler_is_sample.holds))

  content_is : content_in as_stored (sample_chunks s) ≡ recorded s
  unfolding content_in
  content_is =
      let rate : (format_in None (body_in FORMAT (sample_chunks s))).rate ≡ s.rate =
      ap (λ (x : Format). x.rate) format_is in
      let sampler_is : sampler_in (first_body SAMPLER (sample_chunks s)) ≡ (recorded s).sampler =
      ap sampler_in sampler_found ∙ sampler_is_sample.is in
      λ i. record { channels = channels_are i; rate = rate i; sampler = sampler_is i }

  -- ---- all together

  reads_back : recording_in as_stored (sample_wave s) ≡ Ok (recorded s)
  reads_back =
      written_reads (sample_chunks s) chunks_fit form_small as_stored (sample_wave s) wave_is
      ∙ (λ i. unless_broken (content_holds i) (content_is i))

pub waves_read_back : WavesReadBack
waves_read_back s f l most = reads_back s f l most
