-- The points of columns, concatenated.
use Rattle.std.proofs.Common.{◌≡◌, ◌<◌, ◌≤◌, ◌+◌, ◌-◌, ◌*◌, ◌/◌, ℕ, zero, suc, List, ◌++◌, length, take, drop}
use Rattle.std.proofs.Common.{ap, ◌∙◌, sym, subst, arith}
use Rattle.std.proofs.Math.Nat.{le_refl, le_trans, div-mul-le_self, mul-div_right, sub_self, zero-mul, zero-div, div-le_of_le-mul, mul-le-mul_right}
use Rattle.std.proofs.lemmas.Nat.{le-div}
use Rattle.std.specs.Prelude.{slice_range}
use Rattle.std.specs.List.{flat_map, range_with_len}
use Rattle.std.proofs.lemmas.List.{drop-drop, take_all}
use Rattle.std.proofs.Math.Seq.{take-add}
use Rattle.show_sample.specs.Columns.{column_start, ColumnsCoverPoints}

-- two ranges, one after the other
ranges-append : {X : Type 0} (xs : List X) (a b c : ℕ) → a ≤ b → b ≤ c
    → slice_range xs a b ++ slice_range xs b c ≡ slice_range xs a c
ranges-append xs a b c h k =
    let n : b - a + (c - b) ≡ c - a = omega (arith, h, k) in
    let at : a + (b - a) ≡ b = omega (arith, h) in
    let here : drop (b - a) (drop a xs) ≡ drop b xs = drop-drop (b - a) a xs ∙ ap (λ (i : ℕ). drop i xs) at in
    sym (ap (λ (i : ℕ). take i (drop a xs)) (sym n) ∙ take-add (b - a) (c - b) (drop a xs)
    ∙ ap (λ ys. take (b - a) (drop a xs) ++ take (c - b) ys) here)

module _ {X : Type 0} (xs : List X) (s : ℕ → ℕ) (up : (c : ℕ) → s c ≤ s (c + 1)) where
  climbs : (a n b : ℕ) → a + n ≡ b → s a ≤ s b
  climbs a zero b e = subst (λ (c : ℕ). s a ≤ s c) (let same : a ≡ b = omega (arith, e) in same) (le_refl (s a))
  climbs a (suc n) b e = le_trans (up a) (climbs (a + 1) n b (omega (arith, e)))

  -- ranges in ascending order, each beginning where the one before it ends
  pub ranges_joined : (a n b : ℕ) → a + n ≡ b
      → flat_map {X = ℕ} {A = X} (λ c. slice_range xs (s c) (s (c + 1))) (range_with_len a n)
      ≡ slice_range xs (s a) (s b)
  ranges_joined a zero b e =
      let same : b ≡ a = omega (arith, e) in
      let none : s b - s a ≡ 0 = ap (λ (c : ℕ). s c - s a) same ∙ sub_self (s a) in
      sym (ap (λ (k : ℕ). take k (drop (s a) xs)) none)
  ranges_joined a (suc n) b e =
      let rest : a + 1 + n ≡ b = omega (arith, e) in
      ap (λ (ys : List X). slice_range xs (s a) (s (a + 1)) ++ ys) (ranges_joined (a + 1) n b rest)
      ∙ ranges-append xs (s a) (s (a + 1)) (s b) (up a) (climbs (a + 1) n b rest)

-- the next column starts at the same point or at a later one
starts_ascend : (n width c : ℕ) → 0 < width → column_start n width c ≤ column_start n width (c + 1)
starts_ascend n width c some =
    let below = div-mul-le_self (c * n) width in
    let more : c * n ≤ (c + 1) * n = omega arith in
    le-div (c * n / width) ((c + 1) * n) width some (le_trans below more)

pub columns_cover : ColumnsCoverPoints
columns_cover points width some =
    let n = length points in
    let start : 0 * n / width ≡ 0 = ap (λ (k : ℕ). k / width) (zero-mul n) ∙ zero-div width in
    let end : width * n / width ≡ n = mul-div_right n some in
    ranges_joined points (column_start n width) (λ c. starts_ascend n width c some) 0 width width (omega arith)
    ∙ (λ k. slice_range points (start k) (end k)) ∙ take_all (n - 0) points (omega arith)

-- no column starts after the last point
pub starts_within : (n width c : ℕ) → c ≤ width → column_start n width c ≤ n
starts_within n width c inside = div-le_of_le-mul width (mul-le-mul_right n inside)
