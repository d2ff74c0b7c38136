-- The parts of the WAVE file of a sample. None has a pad byte.
use Rattle.std.proofs.Common.{◌≡◌, ◌+◌, ◌*◌, ◌%◌, ℕ, false, eqb, List, [], ◌++◌, length, Option, Some}
use Rattle.std.proofs.Common.{None, refl, ap, sym, ◌∙◌, arith}
use Rattle.std.specs.List.{flat_map}
use Rattle.std.proofs.lemmas.Bool.{ne_eqb}
use Rattle.std.proofs.lemmas.List.{length-append, append-nil}
use Rattle.riff_chunks.specs.Encoding.{pad, chunk, chunk_head, encode}
use Rattle.riff_chunks.proofs.EncodingLaws.{length-chunk}
use Rattle.sample_view.specs.Words.{word_bytes}
use Rattle.sample_view.proofs.WordLaws.{length-word_bytes}
use Rattle.bank_parts.specs.declared.parts.Sample.{Sample}
use Rattle.wave_file.specs.Wave.{RIFF, WAVE, FORMAT, DATA}
use Rattle.wave_file.specs.SampleWave.{SAMPLER, mono_format, sampler_head, loop_bytes, loop_count, stored_pitch}
use Rattle.wave_file.specs.SampleWave.{sampler, sample_chunks, sample_wave}

-- a body of even size needs no pad byte
pad-even : (body : List ℕ) (n : ℕ) → n % 2 ≡ 0 → body ++ pad n ≡ body
unfolding pad
pad-even body n e = let t : eqb (n % 2) 1 ≡ false = ne_eqb _ _ (omega arith) in rw t (append-nil body)

-- a chunk of even size is its header and its body
pub chunk-even : (id body : List ℕ) → length body % 2 ≡ 0 → chunk id body ≡ chunk_head id (length body) ++ body
chunk-even id body e = ap (λ (t : List ℕ). chunk_head id (length body) ++ t) (pad-even body (length body) e)

pub length-ids : (length RIFF ≡ 4) × (length WAVE ≡ 4) × (length FORMAT ≡ 4) × (length SAMPLER ≡ 4) × (length DATA ≡ 4)
unfolding RIFF WAVE FORMAT SAMPLER DATA
length-ids = (refl, refl, refl, refl, refl)

pub length-mono_format : (rate : ℕ) → length (mono_format rate) ≡ 16
unfolding mono_format
length-mono_format rate = refl

pub length-loop_bytes : (looped : Option (ℕ × ℕ)) → length (loop_bytes looped) ≡ 24 * loop_count looped
unfolding loop_bytes
length-loop_bytes None = refl
length-loop_bytes (Some looped) = refl

length-around : (s : Sample) → (length (sampler_head s) ≡ 36) × (length (stored_pitch s.key s.correction) ≡ 8)
unfolding sampler_head stored_pitch
length-around s = (refl, refl)

pub length-sampler : (s : Sample) → length (sampler s) ≡ 44 + 24 * loop_count s.looped
length-sampler s =
    let a = length-append (sampler_head s) (loop_bytes s.looped ++ stored_pitch s.key s.correction) in
    let b = length-append (loop_bytes s.looped) (stored_pitch s.key s.correction) in
    let l = length-loop_bytes s.looped in
    let around = length-around s in
    omega (arith, a, b, l, around.0, around.1)

pub sampler-even : (s : Sample) → length (sampler s) % 2 ≡ 0
sampler-even s = let l = length-sampler s in omega (arith, l)

pub data-even : (points : List ℕ) → length (flat_map word_bytes points) % 2 ≡ 0
data-even points = let l = length-word_bytes points in omega (arith, l)

-- ---- all parts

pub length-content : (s : Sample)
    → length (WAVE ++ encode (sample_chunks s)) ≡ 44 + length (sampler s) + 2 * length s.points
unfolding sample_chunks
length-content s =
    let f = mono_format s.rate in
    let m = sampler s in
    let d = flat_map word_bytes s.points in
    let t1 = chunk DATA d ++ [] in
    let t2 = chunk SAMPLER m ++ t1 in
    let t3 = chunk FORMAT f ++ t2 in
    let a1 = length-append (chunk DATA d) [] in
    let a2 = length-append (chunk SAMPLER m) t1 in
    let a3 = length-append (chunk FORMAT f) t2 in
    let a4 = length-append WAVE t3 in
    let ids = length-ids in
    let c1 = length-chunk DATA d ids.4 in
    let c2 = length-chunk SAMPLER m ids.3 in
    let c3 = length-chunk FORMAT f ids.2 in
    let lf = length-mono_format s.rate in
    let even = sampler-even s in
    let ld = length-word_bytes s.points in
    omega (arith, a1, a2, a3, a4, ids.1, c1, c2, c3, lf, even, ld)

content-even : (s : Sample) → length (WAVE ++ encode (sample_chunks s)) % 2 ≡ 0
content-even s = let l = length-content s in let even = sampler-even s in omega (arith, l, even)

-- the file, as it is put
pub put-parts : (s : Sample) (size data_size : ℕ) → size ≡ length (WAVE ++ encode (sample_chunks s))
    → data_size ≡ length (flat_map word_bytes s.points)
    → chunk_head RIFF size
    ++
    (WAVE
    ++
    (chunk FORMAT (mono_format s.rate)
    ++ (chunk SAMPLER (sampler s) ++ (chunk_head DATA data_size ++ flat_map word_bytes s.points))))
    ≡ sample_wave s
unfolding sample_wave sample_chunks
put-parts s size data_size e k =
    let d = flat_map word_bytes s.points in
    let last : chunk_head DATA data_size ++ d ≡ chunk DATA d ++ [] =
    ap (λ (n : ℕ). chunk_head DATA n ++ d) k ∙ sym (chunk-even DATA d (data-even s.points))
    ∙ sym (append-nil (chunk DATA d)) in
    ap
    (λ (n : ℕ).
    chunk_head RIFF n
    ++
    (WAVE
    ++
    (chunk FORMAT (mono_format s.rate)
    ++ (chunk SAMPLER (sampler s) ++ (chunk_head DATA data_size ++ d)))))
    e
    ∙ ap
    (λ (t : List ℕ).
    chunk_head RIFF (length (WAVE ++ encode (sample_chunks s)))
    ++ (WAVE ++ (chunk FORMAT (mono_format s.rate) ++ (chunk SAMPLER (sampler s) ++ t))))
    last
    ∙ sym (chunk-even RIFF (WAVE ++ encode (sample_chunks s)) (content-even s))
