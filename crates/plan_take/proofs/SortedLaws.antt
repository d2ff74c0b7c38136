-- A binary search of sorted numbers finds exactly what is in the list.
use Rattle.std.proofs.Common.{◌≡◌, ◌==◌, ◌&&◌, ℕ, Bool, List, length, map, Result, Ok, Err}
use Rattle.std.proofs.Common.{get_or, sym, ap, ◌∙◌, inl, inr, arith}
use Rattle.std.specs.List.Sorted.{IsSorted, IsPermutation, IsSearchInRange, IsBinarySearchResult}
use Rattle.std.specs.declared.cmp.Ordering.{Ordering}
use Rattle.std.specs.declared.cmp.Ordering.TheVariants.{Less, Equal, Greater}
use Rattle.std.specs.Ordering.{nat_cmp, is_eq}
use Rattle.std.specs.Result.{is_ok}
use Rattle.std.specs.Cmp.{IsTotalOrder, then_total, on_total, both_tied, unsigned_ties}
use Rattle.std.proofs.lemmas.Cmp.{nat_cmp_total}
use Rattle.std.proofs.lemmas.Bool.{cases_lt}
use Rattle.std.proofs.lemmas.List.Folds.{list_any_at, list_any_none}
use Rattle.std.proofs.lemmas.List.Sorted.{searchable_from_sorted, list_any-IsPermutation}
use Rattle.bank_parts.specs.declared.parts.Head.{Head}
use Rattle.bank_parts.specs.declared.parts.ZoneOwner.{ZoneOwner}
use Rattle.plan_presets.specs.declared.numbers.PresetNumbers.{PresetNumbers}
use Rattle.plan_take.specs.Taking.{has_preset, is_numbered}
use Rattle.plan_take.specs.Sorted.{pair_cmp, pair_of, has_pair}
use Rattle.plan_take.proofs.FaultLaws.{any_of_map, find_any}

pair_total : IsTotalOrder pair_cmp
pair_total = then_total (on_total (λ (t : ℕ × ℕ). t.0) nat_cmp_total) (on_total (λ (t : ℕ × ℕ). t.1) nat_cmp_total)

abbrev is_pair : ℕ × ℕ → ℕ × ℕ → Bool
is_pair x y = y.0 == x.0 && y.1 == x.1

tied : (x y : ℕ × ℕ) (r : Ordering) → pair_cmp y x ≡ r → is_pair x y ≡ is_eq r
tied x y r h =
    both_tied (y.0 == x.0) (y.1 == x.1) (nat_cmp y.0 x.0) (nat_cmp y.1 x.1) (unsigned_ties y.0 x.0) (unsigned_ties y.1 x.1)
    ∙ ap is_eq h

pub searched : (xs : List (ℕ × ℕ)) (x : ℕ × ℕ) (r : Result ℕ ℕ) → IsSorted pair_cmp xs
    → IsSearchInRange r (length xs) → IsBinarySearchResult (λ y. pair_cmp y x) xs r → is_ok r ≡ has_pair xs x.0 x.1
searched xs x (Ok i) sorted within at =
    sym (list_any_at (is_pair x) xs i (0, 0) within (tied x (get_or xs i (0, 0)) Equal (at (0, 0))))
searched xs x (Err i) sorted within parts =
    let split = parts (searchable_from_sorted pair_total (λ (y : ℕ × ℕ). y) xs x sorted) in
    sym
    (list_any_none (is_pair x) xs
    (λ k d lt.
    elim (cases_lt k i) [
      | inl below ↦ tied x (get_or xs k d) Less (split.0 k d (omega arith) below)
      | inr above ↦ tied x (get_or xs k d) Greater (split.1 k d above lt)
    ]))

-- the numbers of presets, in any order
pub used_in : (presets : List (ZoneOwner Head)) (pairs : List (ℕ × ℕ)) (k : PresetNumbers)
    → IsPermutation (map pair_of presets) pairs → has_pair pairs k.bank k.number ≡ has_preset presets k
used_in presets pairs k same =
    let test : ℕ × ℕ → Bool = λ x. x.0 == k.bank && x.1 == k.number in
    sym (list_any-IsPermutation test (map pair_of presets) pairs same)
    ∙ any_of_map test pair_of presets
    ∙ sym (find_any (λ (p : ZoneOwner Head). is_numbered k p.head) presets)
