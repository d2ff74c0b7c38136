-- The points of all samples, and their lengths.
use Rattle.std.proofs.Common.{◌≡◌, ◌<◌, ◌+◌, ◌*◌, ◌%◌, ℕ, List, [], ◌∷◌, ◌++◌, length, get_or, drop, replicate, refl}
use Rattle.std.proofs.Common.{ap, sym, ◌∙◌, arith}
use Rattle.std.specs.List.{flat_map}
use Rattle.std.proofs.lemmas.List.{length-append, append-nil, at_drop_more}
use Rattle.std.proofs.lemmas.List.Concat.{flat_map-append}
use Rattle.std.proofs.lemmas.List.Sums.{sum_by-cons}
use Rattle.riff_chunks.specs.Walk.{LIST}
use Rattle.riff_chunks.specs.Encoding.{chunk, encode}
use Rattle.sample_view.specs.Words.{word_bytes}
use Rattle.sample_view.proofs.WordLaws.{length-word_bytes}
use Rattle.bank_parts.specs.declared.parts.Sample.{Sample}
use Rattle.bank_parts.specs.declared.parts.Parts.{Parts}
use Rattle.bank_parts.specs.Valid.{point_total}
use Rattle.bank_format.specs.Ids.{SDTA, SMPL}
use Rattle.bank_format.specs.Tables.{all_points, points_written}
use Rattle.bank_format.specs.Canon.{sdta}
use Rattle.bank_format.proofs.BankLaws.{length-all_points}
use Rattle.sf_writer.proofs.ChunkLaws.{length-chunk-even, length-form-even, length-LIST}

-- ---- one sample

zero_bytes : flat_map word_bytes (replicate 46 0) ≡ replicate 92 0
unfolding word_bytes
zero_bytes = refl

-- the points of the sample, and then zeros
pub sample-parts : (s : Sample)
    → flat_map word_bytes (points_written s) ≡ flat_map word_bytes s.points ++ replicate 92 0
sample-parts s =
    flat_map-append word_bytes s.points (replicate 46 0)
    ∙ ap (λ (zs : List ℕ). flat_map word_bytes s.points ++ zs) zero_bytes

-- ---- all samples

-- the points from sample i on
pub point_total-next : (samples : List Sample) (i : ℕ) (s : Sample) → i < length samples → s ≡ get_or samples i s
    → point_total (drop i samples) ≡ (length s.points + 46) + point_total (drop (i + 1) samples)
point_total-next samples i s lt is =
    at_drop_more point_total samples i s lt
    ∙ ap (λ (x : Sample). point_total (x ∷ drop (i + 1) samples)) (sym is)
    ∙ sum_by-cons (λ (x : Sample). length x.points + 46) s (drop (i + 1) samples)

pub length_all_points : (b : Parts) → length (flat_map word_bytes (all_points b)) ≡ 2 * point_total b.samples
length_all_points b = omega (arith, length-word_bytes (all_points b), length-all_points b)

pub all_points-even : (b : Parts) → length (flat_map word_bytes (all_points b)) % 2 ≡ 0
all_points-even b = omega (arith, length_all_points b)

-- ---- the list

-- the list has one chunk
pub sdta-is : (b : Parts) → encode (sdta b) ≡ chunk SMPL (flat_map word_bytes (all_points b))
unfolding sdta
sdta-is b = append-nil (chunk SMPL (flat_map word_bytes (all_points b)))

pub length-sdta : (b : Parts) → length (encode (sdta b)) ≡ 8 + length (flat_map word_bytes (all_points b))
unfolding sdta SMPL
length-sdta b =
    let points = flat_map word_bytes (all_points b) in
    omega (arith, length-append (chunk SMPL points) [], length-chunk-even SMPL points refl (all_points-even b))

pub sdta-even : (b : Parts) → length (encode (sdta b)) % 2 ≡ 0
sdta-even b = omega (arith, length-sdta b, all_points-even b)

pub length-SDTA : length SDTA ≡ 4
unfolding SDTA
length-SDTA = refl

pub length-sdta_list : (b : Parts) → length (chunk LIST (SDTA ++ encode (sdta b))) ≡ 8 + length (SDTA ++ encode (sdta b))
length-sdta_list b = length-form-even LIST SDTA (encode (sdta b)) length-LIST length-SDTA (sdta-even b)
