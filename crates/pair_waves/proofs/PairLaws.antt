-- The parts of the WAVE file of a pair. None has a pad byte.
use Rattle.std.proofs.Common.{◌≡◌, ◌+◌, ◌*◌, ◌%◌, ℕ, List, [], ◌∷◌, ◌++◌, length, refl, ap, sym, ◌∙◌, arith}
use Rattle.std.proofs.lemmas.List.{length-append, append-nil}
use Rattle.riff_chunks.specs.Walk.{Chunk}
use Rattle.riff_chunks.specs.Encoding.{chunk, chunk_head, encode}
use Rattle.riff_chunks.proofs.EncodingLaws.{length-chunk}
use Rattle.bank_parts.specs.declared.parts.Sample.{Sample}
use Rattle.wave_file.specs.Wave.{RIFF, WAVE, FORMAT, DATA}
use Rattle.wave_file.specs.SampleWave.{SAMPLER, sampler, made}
use Rattle.wave_file.proofs.SampleLaws.{chunk-even, length-ids, sampler-even}
use Rattle.pair_waves.specs.Frames.{interleaved}
use Rattle.pair_waves.specs.PairWave.{stereo_format, pair_chunks, pair_wave}
use Rattle.pair_waves.proofs.SideLaws.{length-interleaved}

-- three chunks, by their bodies
abbrev pub three : List ℕ → List ℕ → List ℕ → List Chunk
three f m d = made FORMAT f ∷ made SAMPLER m ∷ made DATA d ∷ []

pub length-three : (f m d : List ℕ) → length (WAVE ++ encode (three f m d))
    ≡ 28 + (length f + length f % 2) + (length m + length m % 2) + (length d + length d % 2)
length-three f m d =
    let t1 = chunk DATA d ++ [] in
    let t2 = chunk SAMPLER m ++ t1 in
    let t3 = chunk FORMAT f ++ t2 in
    let a1 = length-append (chunk DATA d) [] in
    let a2 = length-append (chunk SAMPLER m) t1 in
    let a3 = length-append (chunk FORMAT f) t2 in
    let a4 = length-append WAVE t3 in
    let ids = length-ids in
    let c1 = length-chunk DATA d ids.4 in
    let c2 = length-chunk SAMPLER m ids.3 in
    let c3 = length-chunk FORMAT f ids.2 in
    omega (arith, a1, a2, a3, a4, ids.1, c1, c2, c3)

length-stereo_format : (rate : ℕ) → length (stereo_format rate) ≡ 16
unfolding stereo_format
length-stereo_format rate = refl

module _ (left right : Sample) (same : length left.points ≡ length right.points) where
  abbrev points : List ℕ
  points = interleaved left.points right.points

  points-even : length points % 2 ≡ 0
  points-even = let n = length-interleaved left.points right.points same in omega (arith, n)

  pub length-content : length (WAVE ++ encode (pair_chunks left right))
      ≡ 44 + length (sampler left) + 4 * length left.points
  unfolding pair_chunks
  length-content =
      let whole = length-three (stereo_format left.rate) (sampler left) points in
      let f = length-stereo_format left.rate in
      let even = sampler-even left in
      let n = length-interleaved left.points right.points same in
      omega (arith, whole, f, even, n)

  content-even : length (WAVE ++ encode (pair_chunks left right)) % 2 ≡ 0
  content-even = let l = length-content in let even = sampler-even left in omega (arith, l, even)

  -- the file, as it is put
  pub put_parts : (size data_size : ℕ) → size ≡ length (WAVE ++ encode (pair_chunks left right))
      → data_size ≡ length points
      → chunk_head RIFF size
      ++ (WAVE
      ++ (chunk FORMAT (stereo_format left.rate)
      ++ (chunk SAMPLER (sampler left) ++ (chunk_head DATA data_size ++ points))))
      ≡ pair_wave left right
  unfolding pair_wave pair_chunks
  put_parts size data_size e k =
      let last : chunk_head DATA data_size ++ points ≡ chunk DATA points ++ [] =
      ap (λ (n : ℕ). chunk_head DATA n ++ points) k ∙ sym (chunk-even DATA points points-even)
      ∙ sym (append-nil (chunk DATA points)) in
      (λ i. chunk_head RIFF (e i)
      ++ (WAVE ++ (chunk FORMAT (stereo_format left.rate) ++ (chunk SAMPLER (sampler left) ++ last i))))
      ∙ sym (chunk-even RIFF (WAVE ++ encode (pair_chunks left right)) content-even)
