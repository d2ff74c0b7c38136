-- One pass over points, and what it finds.
use Rattle.std.proofs.Common.{◌≡◌, ◌<◌, ◌≤◌, suc, ◌+◌, ◌*◌, ◌/◌, ℕ, List, [], ◌∷◌, length, take, map, get_or, refl}
use Rattle.std.proofs.Common.{subst, ap, ◌∙◌, sym, arith, to_z, of_z}
use Rattle.std.specs.Prelude.{cond, ◌&&◌, nat_le, nat_lt, unsigned_abs, int_div, Some, None, ℤ, pos, negsuc, ◌+ℤ◌, ◌^◌}
use Rattle.std.specs.Prelude.{FitsSigned}
use Rattle.std.specs.Int.{w16, w32, w64, cast_signed, int_wrap}
use Rattle.std.specs.Borrow.{Bor}
use Rattle.std.specs.List.{fold}
use Rattle.std.proofs.Math.Nat.{div-le_of_le-mul}
use Rattle.std.proofs.lemmas.Int.{ints, int_wrap-add_left, int_wrap_fits, to_z-of_z, to_z_pos}
use Rattle.std.proofs.lemmas.List.Sums.{fold_more, fold-append}
use Rattle.sample_view.specs.Words.{words}
use Rattle.sample_view.specs.Pieces.{joined}
use Rattle.sample_view.proofs.PieceLaws.{joined-more}
use Rattle.sample_view.proofs.WordLaws.{length-words, get_or-words}
use Rattle.show_findings.specs.declared.points.PointScan.{PointScan}
use Rattle.show_findings.specs.Scans.{scan_start, scan_more, facts_of, offset_in, IsNear}
use Rattle.show_findings.specs.Points.{sum_of, has_offset, mean_of}
use Rattle.show_findings.specs.declared.finding.Finding.TheVariants.{OffsetSample}

-- one point more
pub scan_one : (start now next : PointScan) (word : ℕ) (bytes : List ℕ) (i : ℕ) → i < length bytes / 2
    → now ≡ fold scan_more start (take i (words bytes))
    → word ≡ get_or bytes (2 * i) 0 + get_or bytes (2 * i + 1) 0 * 256 → next ≡ scan_more now word
    → next ≡ fold scan_more start (take (i + 1) (words bytes))
scan_one start now next word bytes i inside e p n =
    let ws = words bytes in
    let number = get_or-words (2 * i) i bytes refl (omega (arith, inside)) in
    let w : word ≡ get_or ws i 0 = omega (arith, number, p) in
    n ∙ ap (λ (s : PointScan). scan_more s word) e ∙ ap (scan_more (fold scan_more start (take i ws))) w
    ∙ sym (fold_more scan_more start ws i 0 (omega (arith, inside, length-words bytes)))

-- one piece more
pub scan_piece : (pieces : List (Bor (List ℕ))) (i : ℕ) (d : Bor (List ℕ)) (now next : PointScan) → i < length pieces
    → now ≡ fold scan_more scan_start (joined (take i pieces))
    → next ≡ fold scan_more now (words (get_or pieces i d).now)
    → next ≡ fold scan_more scan_start (joined (take (i + 1) pieces))
scan_piece pieces i d now next lt e n =
    let more = words (get_or pieces i d).now in
    n ∙ ap (λ (s : PointScan). fold scan_more s more) e
    ∙ sym (fold-append scan_more scan_start (joined (take i pieces)) more)
    ∙ ap (fold scan_more scan_start) (sym (joined-more pieces i d lt))

-- ---- the sum

sum_from : (ps : List ℕ) (s : PointScan) (z : ℤ) → s.sum ≡ int_wrap w64 z
    → (fold scan_more s ps).sum ≡ int_wrap w64 (fold ◌+ℤ◌ z (map (cast_signed w16) ps))
sum_from [] s z e = e
sum_from (p ∷ ps) s z e =
    let q = cast_signed w16 p in
    sum_from ps (scan_more s p) (z +ℤ q) (ap (λ (y : ℤ). int_wrap w64 (y +ℤ q)) e ∙ int_wrap-add_left w64 z q)

near : (ps : List ℕ) (z : ℤ) (n : ℕ) → IsNear z n
    → IsNear (fold ◌+ℤ◌ z (map (cast_signed w16) ps)) (n + 32768 * length ps)
near [] z n h =
    let e : n + 32768 * 0 ≡ n = omega arith in rw e h
near (p ∷ ps) z n h =
    let q = cast_signed w16 p in
    let e : n + 32768 + 32768 * length ps ≡ n + 32768 * length (p ∷ ps) = omega arith in
    let low = h.0 in
    let high = h.1 in
    let next : IsNear (z +ℤ q) (n + 32768) = (omega (arith, ints, low), omega (arith, ints, high)) in
    subst (IsNear (fold ◌+ℤ◌ (z +ℤ q) (map (cast_signed w16) ps))) e (near ps (z +ℤ q) (n + 32768) next)

pub sum_near : (points : List ℕ) → IsNear (sum_of points) (32768 * length points)
sum_near points =
    let e : 0 + 32768 * length points ≡ 32768 * length points = omega arith in
    subst (IsNear (sum_of points)) e (near points (pos 0) 0 (omega (arith, ints), omega (arith, ints)))

pub sum_is : (points : List ℕ) → length points < 2 ^ 32 → (facts_of points).sum ≡ sum_of points
sum_is points few =
    let bound = sum_near points in
    let low = bound.0 in
    let high = bound.1 in
    let fits : FitsSigned w64 (sum_of points) = omega (arith, ints, few, low, high) in
    sum_from points scan_start (pos 0) (sym (int_wrap_fits w64 (pos 0) (omega (arith, ints)))) ∙ int_wrap_fits w64 (sum_of points) fits

pub facts_near : (points : List ℕ) → length points < 2 ^ 32 → IsNear (facts_of points).sum (32768 * length points)
facts_near points few = subst (λ (z : ℤ). IsNear z (32768 * length points)) (sym (sum_is points few)) (sum_near points)

-- the mean is near zero too
pub mean_near : (z : ℤ) (n : ℕ) → 0 < n → IsNear z (32768 * n) → IsNear (int_div z (pos n)) 32768
mean_near (pos a) n filled h =
    let high = h.1 in
    let le : a ≤ n * 32768 = omega (arith, ints, high) in
    let small = div-le_of_le-mul n le in
    (omega (arith, ints), omega (arith, ints, small))
mean_near (negsuc a) n filled h =
    let low = h.0 in
    let le : suc a ≤ n * 32768 = omega (arith, ints, low) in
    let small = div-le_of_le-mul n le in
    (omega (arith, ints, small), omega (arith, ints))

module _ (z : ℤ) (n : ℕ) (fits : FitsSigned w64 z) (filled : 0 < n) (few : n < 2 ^ 32)
    (h : IsNear z (32768 * n)) where
  mean_bounds : IsNear (int_div z (pos n)) 32768
  mean_bounds = mean_near z n filled h

  pub mean_fits : FitsSigned w32 (int_div z (pos n))
  mean_fits = let b = mean_bounds in omega (arith, ints, b)

  -- the quotient of 64 bits
  pub mean_is : to_z w64 (of_z w64 (int_div (to_z w64 (of_z w64 z)) (to_z w64 n))) ≡ int_div z (pos n)
  mean_is =
      let b = mean_bounds in
      let wide : FitsSigned w64 (int_div z (pos n)) = omega (arith, ints, b) in
      ap (λ (y : ℤ). to_z w64 (of_z w64 (int_div y (to_z w64 n)))) (to_z-of_z w64 z fits)
      ∙ ap (λ (d : ℤ). to_z w64 (of_z w64 (int_div z d))) (to_z_pos w64 n (omega (arith, few)))
      ∙ to_z-of_z w64 (int_div z (pos n)) wide

pub offset_is : (k : ℕ) (points : List ℕ) → length points < 2 ^ 32
    → offset_in k (facts_of points)
    ≡ cond (has_offset points) (Some (OffsetSample k (mean_of points))) None
offset_is k points few =
    ap
    (λ (z : ℤ).
    cond (nat_le 1000 (length points) && nat_lt 328 (unsigned_abs (int_div z (pos (length points)))))
    (Some (OffsetSample k (int_div z (pos (length points))))) None)
    (sum_is points few)
