-- The bits and the range of points of a sample header.
use Rattle.std.proofs.Common.{◌≡◌, ◌-◌, ◌/◌, ◌%◌, ◌*◌, ◌==◌, ℕ, not, bit_and, List, take, drop, refl, ap, ◌∙◌, arith}
use Rattle.std.proofs.lemmas.Nat.Bits.{and_pow}
use Rattle.std.specs.Prelude.{slice_range}
use Rattle.sample_view.specs.Words.{words}
use Rattle.sample_view.proofs.WordLaws.{words-take, words-drop}

-- testing one bit
pub bit_4 : (kind : ℕ) → not (bit_and kind 16 == 0) ≡ not (kind / 16 % 2 == 0)
bit_4 kind = let e : bit_and kind 16 ≡ kind / 16 % 2 * 16 = and_pow kind 4 in rw e (grind arith)

-- the points of a range are the words of the part of bytes
pub points_cut : (smpl : List ℕ) (start end count : ℕ) → count ≡ end - start
    → words (take (2 * count) (drop (2 * start) smpl)) ≡ slice_range (words smpl) start end
points_cut smpl start end count e =
    words-take (2 * count) count (drop (2 * start) smpl) refl
    ∙ ap (take count) (words-drop (2 * start) start smpl refl)
    ∙ ap (λ (n : ℕ). take n (drop start (words smpl))) e
