-- The windows of a table contain elements of the table, each at most once.
use Rattle.std.proofs.Common.{◌≡◌, ◌≤◌, ◌+◌, ◌-◌, ℕ, zero, suc, true, leb, List, [], ◌∷◌, length, take, drop, None}
use Rattle.std.proofs.Common.{ap, ◌∙◌, arith}
use Rattle.std.specs.Prelude.{sum_by, nat_le}
use Rattle.std.specs.List.{AllByRecursion, slice_range, list_all}
use Rattle.std.proofs.lemmas.Bool.{leb-true, and_parts}
use Rattle.std.proofs.lemmas.List.{length-take, drop-drop}
use Rattle.std.proofs.lemmas.List.Sums.{sum_by-cons, sum_by-take-drop}
use Rattle.bank_format.specs.FaultChecks.{first_fault}
use Rattle.bank_format.specs.Windows.{windows_from, windows, zip_with}
use Rattle.bank_format.specs.ReadChecks.{is_rising_from, is_rising, index_checks}
use Rattle.bank_format.proofs.CheckLaws.{split_none}

-- ---- non-decreasing indexes, none greater than the last index

pub record AreIndexes (is : List ℕ) (last : ℕ) : Type 0 where
  pub rising : is_rising is ≡ true
  pub inside : list_all (λ i. nat_le i last) is ≡ true

pub indexes_held : (is : List ℕ) (n : ℕ) → first_fault (index_checks is n) ≡ None → AreIndexes is (n - 1)
unfolding index_checks
indexes_held is n e =
    let order = split_none (is_rising is) _ _ e in
    let last = split_none (list_all (λ i. nat_le i (n - 1)) is) _ _ order.1 in
    record { rising = order.0; inside = last.0 }

-- ---- a property of each element of the table

module _ {X : Type 0} (P : X → Type 0) where
  pub all_of_take : (n : ℕ) (xs : List X) → AllByRecursion P xs → AllByRecursion P (take n xs)
  all_of_take zero xs v = tt
  all_of_take (suc n) [] v = tt
  all_of_take (suc n) (x ∷ xs) v = (v.0, all_of_take n xs v.1)

  all_dropped : (n : ℕ) (xs : List X) → AllByRecursion P xs → AllByRecursion P (drop n xs)
  all_dropped zero xs v = v
  all_dropped (suc n) [] v = tt
  all_dropped (suc n) (x ∷ xs) v = all_dropped n xs v.1

  abbrev pub AllOf : List X → Type 0
  AllOf xs = AllByRecursion P xs

  all_from : (table : List X) (at : ℕ) (is : List ℕ) → AllOf table → AllByRecursion AllOf (windows_from table at is)
  all_from table at [] v = tt
  all_from table at (i ∷ is) v = (all_of_take (i - at) (drop at table) (all_dropped at table v), all_from table i is v)

  pub all_windows : (table : List X) (is : List ℕ) → AllOf table → AllByRecursion AllOf (windows table is)
  all_windows table [] v = tt
  all_windows table (i ∷ is) v = all_from table i is v

-- ---- the total length of the windows

module _ {X : Type 0} (table : List X) (last : ℕ) where
  lengths_from : (at : ℕ) (is : List ℕ) → at ≤ last → is_rising_from at is ≡ true
      → list_all (λ i. nat_le i last) is ≡ true → sum_by length (windows_from table at is) + at ≤ last
  lengths_from at [] le rising inside = omega (arith, le)
  lengths_from at (i ∷ is) le rising inside =
      let order = and_parts (leb at i) (is_rising_from i is) rising in
      let bound = and_parts (leb i last) (list_all (λ i. nat_le i last) is) inside in
      let up = leb-true _ _ order.0 in
      let here = length-take (i - at) (drop at table) in
      let later = lengths_from i is (leb-true _ _ bound.0) order.1 bound.1 in
      let whole = sum_by-cons length (slice_range table at i) (windows_from table i is) in
      omega (arith, up, here, later, whole)

  pub lengths_within : (is : List ℕ) → AreIndexes is last → sum_by length (windows table is) ≤ last
  lengths_within [] v = omega arith
  lengths_within (i ∷ is) v =
      let order = and_parts (leb 0 i) (is_rising_from i is) v.rising in
      let bound = and_parts (leb i last) (list_all (λ i. nat_le i last) is) v.inside in
      let h = lengths_from i is (leb-true _ _ bound.0) order.1 bound.1 in
      omega (arith, h)

-- ---- the sum of a measure over all windows

module _ {X : Type 0} (measure : X → ℕ) (table : List X) where
  abbrev measured : List X → ℕ
  measured xs = sum_by measure xs

  sums_from : (at : ℕ) (is : List ℕ) → is_rising_from at is ≡ true
      → sum_by measured (windows_from table at is) ≤ measured (drop at table)
  sums_from at [] rising = omega arith
  sums_from at (i ∷ is) rising =
      let order = and_parts (leb at i) (is_rising_from i is) rising in
      let up = leb-true _ _ order.0 in
      let on : at + (i - at) ≡ i = omega (arith, up) in
      let moved : measured (drop (i - at) (drop at table)) ≡ measured (drop i table) =
      ap measured (drop-drop (i - at) at table ∙ ap (λ n. drop n table) on) in
      let parts = sum_by-take-drop measure (drop at table) (i - at) in
      let later = sums_from i is order.1 in
      let whole = sum_by-cons measured (slice_range table at i) (windows_from table i is) in
      omega (arith, moved, parts, later, whole)

  pub sums_within : (is : List ℕ) → is_rising is ≡ true → sum_by measured (windows table is) ≤ measured table
  sums_within [] rising = omega arith
  sums_within (i ∷ is) rising =
      let order = and_parts (leb 0 i) (is_rising_from i is) rising in
      let parts = sum_by-take-drop measure table i in
      let h = sums_from i is order.1 in
      omega (arith, parts, h)

-- ---- two lists zipped

module _ {X Y Z : Type 0} (f : X → Y → Z) where
  pub all_together : (P : X → Type 0) (Q : Y → Type 0) (R : Z → Type 0) → ((x : X) (y : Y) → P x → Q y → R (f x y))
      → (xs : List X) (ys : List Y) → AllByRecursion P xs → AllByRecursion Q ys → AllByRecursion R (zip_with f xs ys)
  all_together P Q R h [] ys p q = tt
  all_together P Q R h (x ∷ xs) [] p q = tt
  all_together P Q R h (x ∷ xs) (y ∷ ys) p q = (h x y p.0 q.0, all_together P Q R h xs ys p.1 q.1)

  pub length-zip_with-le : (xs : List X) (ys : List Y) → length (zip_with f xs ys) ≤ length xs
  length-zip_with-le [] ys = omega arith
  length-zip_with-le (x ∷ xs) [] = omega arith
  length-zip_with-le (x ∷ xs) (y ∷ ys) = let h = length-zip_with-le xs ys in omega (arith, h)

  -- the sum over the zipped list is at most the sum over either list
  pub sum-left : (g : Z → ℕ) (k : X → ℕ) → ((x : X) (y : Y) → g (f x y) ≤ k x) → (xs : List X) (ys : List Y)
      → sum_by g (zip_with f xs ys) ≤ sum_by k xs
  sum-left g k h [] ys = omega arith
  sum-left g k h (x ∷ xs) [] = omega arith
  sum-left g k h (x ∷ xs) (y ∷ ys) =
      let one = h x y in
      let rest = sum-left g k h xs ys in
      let old = sum_by-cons k x xs in
      let new = sum_by-cons g (f x y) (zip_with f xs ys) in
      omega (arith, one, rest, old, new)

  pub sum-right : (g : Z → ℕ) (k : Y → ℕ) → ((x : X) (y : Y) → g (f x y) ≤ k y) → (xs : List X) (ys : List Y)
      → sum_by g (zip_with f xs ys) ≤ sum_by k ys
  sum-right g k h [] ys = omega arith
  sum-right g k h (x ∷ xs) [] = omega arith
  sum-right g k h (x ∷ xs) (y ∷ ys) =
      let one = h x y in
      let rest = sum-right g k h xs ys in
      let old = sum_by-cons k y ys in
      let new = sum_by-cons g (f x y) (zip_with f xs ys) in
      omega (arith, one, rest, old, new)
