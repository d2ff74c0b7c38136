-- The WAVE file of a pair reads back as its samples.
use Rattle.std.proofs.Common.{◌≡◌, ◌≤◌, ◌<◌, ◌+◌, ◌%◌, ◌^◌, ℕ, true, eqb, List, ◌++◌, length, drop, Option}
use Rattle.std.proofs.Common.{Some, None, Result, Ok, Err, refl, ap, sym, ◌∙◌, arith}
use Rattle.std.specs.List.{AllByRecursion, flat_map}
use Rattle.std.proofs.lemmas.Bool.{eq-eqb}
use Rattle.byteorder.specs.Numbers.{little_number-reads_back}
use Rattle.sf_base.specs.declared.limits.TheConstants.{POINTS}
use Rattle.sample_view.specs.Words.{word_bytes}
use Rattle.pcm_points.specs.declared.encoding.SampleEncoding.TheVariants.{Signed16}
use Rattle.pcm_points.specs.Points.{channel_words}
use Rattle.riff_chunks.specs.Encoding.{chunk, encode, FitsChunk}
use Rattle.bank_parts.specs.declared.parts.Sample.{Sample}
use Rattle.bank_parts.specs.Valid.{IsLoop}
use Rattle.bank_parts.specs.Fits.{FitsSample}
use Rattle.bank_format.specs.Ids.{RIFF}
use Rattle.bank_format.specs.FaultChecks.{Check, first_fault}
use Rattle.bank_format.proofs.CheckLaws.{both_none, then_none}
use Rattle.wave_file.specs.Wave as wave
use Rattle.wave_file.specs.Wave.{WAVE, FORMAT, DATA}
use Rattle.wave_file.specs.SampleWave.{SAMPLER, mono_format, sampler, sample_chunks, sample_wave}
use Rattle.wave_file.specs.declared.fault.WaveFault.{WaveFault}
use Rattle.wave_file.specs.declared.recording.Channels.TheVariants.{Stereo}
use Rattle.wave_file.specs.declared.recording.Recording.{Recording}
use Rattle.wave_file.specs.Recordings.{as_stored, format_in, channels_in, frame_count, sampler_in}
use Rattle.wave_file.specs.ReadChecks.{format_checks, frame_checks, data_checks, sampler_checks}
use Rattle.wave_file.specs.ReadChecks.{content_checks, content_in, unless_broken, recording_in}
use Rattle.wave_file.specs.Laws.{recorded}
use Rattle.wave_file.proofs.SampleLaws as sample
use Rattle.wave_file.proofs.SampleLaws.{length-ids, length-sampler}
use Rattle.wave_file.proofs.BackLaws.{loop_count_small, waves_read_back}
use Rattle.wave_file.proofs.WrittenLaws.{written_reads}
use Rattle.pair_waves.specs.Frames.{interleaved}
use Rattle.pair_waves.specs.PairWave.{stereo_format, pair_chunks, pair_wave}
use Rattle.pair_waves.specs.Laws.{recorded_pair, PairsReadBack}
use Rattle.pair_waves.proofs.SideLaws.{length-interleaved, left_back, right_back}
use Rattle.pair_waves.proofs.PairLaws.{three, length-three, length-content}

-- ---- a file of three chunks

abbrev checks_of : List ℕ → List ℕ → List ℕ → List (Check WaveFault)
checks_of f m d =
    format_checks None f
    ++ (data_checks (format_in None f) (Some d)
    ++ sampler_checks (frame_count (channels_in None (format_in None f) d)) (Some m))

abbrev content_of : List ℕ → List ℕ → List ℕ → Recording
content_of f m d = record {
  channels = channels_in None (format_in None f) d;
  rate = (format_in None f).rate;
  sampler = sampler_in (Some m);
}

module _ (f m d : List ℕ) (small : length (WAVE ++ encode (three f m d)) + 1 < 2 ^ 32) where
  bodies_fit : AllByRecursion FitsChunk (three f m d)
  bodies_fit =
      let ids = length-ids in
      let n = length-three f m d in (
        record { id = ids.2; body = omega (arith, n, small) },
        (
          record { id = ids.3; body = omega (arith, n, small) },
          (record { id = ids.4; body = omega (arith, n, small) }, tt),
        ),
      )

  checks_are : content_checks as_stored (three f m d) ≡ checks_of f m d
  unfolding content_checks FORMAT SAMPLER DATA
  checks_are = refl

  content_is : content_in as_stored (three f m d) ≡ content_of f m d
  unfolding content_in FORMAT SAMPLER DATA
  content_is = refl

  file_reads : (file : List ℕ) → file ≡ chunk RIFF (WAVE ++ encode (three f m d))
      → recording_in as_stored file ≡ unless_broken (first_fault (checks_of f m d)) (content_of f m d)
  file_reads file is =
      written_reads (three f m d) bodies_fit small as_stored file is
      ∙ (λ i. unless_broken (first_fault (checks_are i)) (content_is i))

-- ---- the `smpl` chunk

abbrev recording_or : Recording → Result Recording WaveFault → Recording
recording_or other (Ok r) = r
recording_or other (Err f) = other

unbroken : (broken : Option WaveFault) (x r : Recording) → unless_broken broken x ≡ Ok r → (broken ≡ None) × (x ≡ r)
unbroken None x r h = (refl, ap (recording_or x) h)
unbroken (Some f) x r h = absurd cc

-- The `smpl` chunk of a sample reads back, because its mono file does.
record SamplerBack (s : Sample) : Type 0 where
  holds : first_fault (sampler_checks (length s.points) (Some (sampler s))) ≡ None
  is : sampler_in (Some (sampler s)) ≡ (recorded s).sampler

module _ (s : Sample) (fits : FitsSample s) (looped : IsLoop (length s.points) s.looped)
    (few : length s.points ≤ POINTS) where
  abbrev f : List ℕ
  f = mono_format s.rate

  abbrev d : List ℕ
  d = flat_map word_bytes s.points

  mono_small : length (WAVE ++ encode (three f (sampler s) d)) + 1 < 2 ^ 32
  unfolding sample_chunks
  mono_small =
      let a = sample.length-content s in
      let b = length-sampler s in
      let c = loop_count_small s.looped in
      omega (arith, a, b, c, few)

  mono_is : sample_wave s ≡ chunk RIFF (WAVE ++ encode (three f (sampler s) d))
  unfolding sample_wave sample_chunks RIFF wave.RIFF
  mono_is = refl

  sampler_back : SamplerBack s
  sampler_back =
      let both = unbroken (first_fault (checks_of f (sampler s) d)) (content_of f (sampler s) d) (recorded s)
      (sym (file_reads f (sampler s) d mono_small (sample_wave s) mono_is) ∙ waves_read_back s fits looped few) in
      let count : frame_count (channels_in None (format_in None f) d) ≡ length s.points =
      ap (λ (r : Recording). frame_count r.channels) both.1 in
      let after_format = both_none (format_checks None f) _ both.0 in
      let after_data = both_none (data_checks (format_in None f) (Some d)) _ after_format.1 in
      record {
        holds = ap (λ (n : ℕ). first_fault (sampler_checks n (Some (sampler s)))) (sym count) ∙ after_data.1;
        is = ap (λ (r : Recording). r.sampler) both.1;
      }

-- ---- the pair

format_holds : (rate : ℕ) → first_fault (format_checks None (stereo_format rate)) ≡ None
unfolding format_checks stereo_format
format_holds rate = refl

rate_back : (rate : ℕ) → rate < 2 ^ 32 → (format_in None (stereo_format rate)).rate ≡ rate
unfolding stereo_format
rate_back rate lt = little_number-reads_back 4 rate (drop 8 (stereo_format rate)) lt

channels_of_format : (rate : ℕ) (d : List ℕ)
    → channels_in None (format_in None (stereo_format rate)) d
    ≡ Stereo (channel_words Signed16 2 0 d) (channel_words Signed16 2 1 d)
unfolding stereo_format
channels_of_format rate d = refl

data_holds : (rate : ℕ) (d : List ℕ) → length d % 4 ≡ 0
    → first_fault (data_checks (format_in None (stereo_format rate)) (Some d)) ≡ None
unfolding data_checks frame_checks stereo_format
data_holds rate d e = let whole : eqb (length d % 4) 0 ≡ true = eq-eqb _ _ e in rw whole refl

module _ (left right : Sample) (fits : FitsSample left) (right_fits : FitsSample right)
    (looped : IsLoop (length left.points) left.looped) (same : length left.points ≡ length right.points)
    (few : length left.points ≤ POINTS) where
  abbrev format : List ℕ
  format = stereo_format left.rate

  abbrev points : List ℕ
  points = interleaved left.points right.points

  pair_small : length (WAVE ++ encode (three format (sampler left) points)) + 1 < 2 ^ 32
  unfolding pair_chunks
  pair_small =
      let a = length-content left right same in
      let b = length-sampler left in
      let c = loop_count_small left.looped in
      omega (arith, a, b, c, few)

  pair_is : pair_wave left right ≡ chunk RIFF (WAVE ++ encode (three format (sampler left) points))
  unfolding pair_wave pair_chunks RIFF wave.RIFF
  pair_is = refl

  channels_are : channels_in None (format_in None format) points ≡ Stereo left.points right.points
  channels_are =
      channels_of_format left.rate points
      ∙ (λ i. Stereo (left_back left.points right.points fits.points same i)
      (right_back left.points right.points right_fits.points same i))

  pair_holds : first_fault (checks_of format (sampler left) points) ≡ None
  pair_holds =
      let counted : frame_count (channels_in None (format_in None format) points) ≡ length left.points =
      ap frame_count channels_are in
      let whole : length points % 4 ≡ 0 =
      (let n = length-interleaved left.points right.points same in omega (arith, n)) in
      then_none (format_checks None format) _ (format_holds left.rate)
      (then_none (data_checks (format_in None format) (Some points)) _ (data_holds left.rate points whole)
      (ap (λ (n : ℕ). first_fault (sampler_checks n (Some (sampler left)))) counted
      ∙ (sampler_back left fits looped few).holds))

  content_back : content_of format (sampler left) points ≡ recorded_pair left right
  content_back =
      let rate = rate_back left.rate fits.rate in
      λ i. record {
        channels = channels_are i;
        rate = rate i;
        sampler = (sampler_back left fits looped few).is i;
      }

  reads_back : recording_in as_stored (pair_wave left right) ≡ Ok (recorded_pair left right)
  reads_back =
      file_reads format (sampler left) points pair_small (pair_wave left right) pair_is
      ∙ (λ i. unless_broken (pair_holds i) (content_back i))

pub pairs_read_back : PairsReadBack
pairs_read_back left right fits right_fits looped same few = reads_back left right fits right_fits looped same few
