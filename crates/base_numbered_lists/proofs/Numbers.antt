-- Numbers after a renumbering and its inverse.
use Rattle.std.proofs.Common.{◌≡◌, ◌≢◌, ◌==◌, false, ℕ, ◌<◌, ◌≤◌, ◌+◌, List, map, All, get_or, arith}
use Rattle.std.proofs.lemmas.Bool.Decides.{nat_tests}
use Rattle.base_numbered_lists.specs.declared.renumbering.Renumbering.TheVariants.{Insertion, Removal, Move}
use Rattle.base_numbered_lists.specs.Renumbered.{renumbered}
use Rattle.base_numbered_lists.proofs.Lists.{map-undone}

-- A renumbering and its inverse

pub insertion_returned : (i x : ℕ) → renumbered (Removal i) (renumbered (Insertion i) x) ≡ x
insertion_returned i x = grind (arith, nat_tests)

pub removal_returned : (i x : ℕ) → x ≢ i → renumbered (Insertion i) (renumbered (Removal i) x) ≡ x
removal_returned i x h = grind (arith, nat_tests)

pub move_returned : (i j x : ℕ) → renumbered (Move j i) (renumbered (Move i j) x) ≡ x
move_returned i j x = grind (arith, nat_tests)

-- A member's number stays below the length

pub insertion_below : (i x n : ℕ) → x < n → renumbered (Insertion i) x < n + 1
insertion_below i x n h = grind (arith, nat_tests)

pub removal_no_more : (i x : ℕ) → renumbered (Removal i) x ≤ x
removal_no_more i x = grind (arith, nat_tests)

pub move_below : (i j x n : ℕ) → i < n → j < n → x < n → renumbered (Move i j) x < n
move_below i j x n k l h = grind (arith, nat_tests)

-- A move is a removal and then an insertion, except for the moved member

pub move_in_two : (i j x : ℕ) → x ≢ i → renumbered (Move i j) x ≡ renumbered (Insertion j) (renumbered (Removal i) x)
move_in_two i j x h = grind (arith, nat_tests)

pub move_renumbers : (i j x : ℕ) → x ≡ i → renumbered (Move i j) x ≡ j
move_renumbers i j x h = grind (arith, nat_tests)

-- A change at the end of a list renumbers nothing

pub insertion_keeps : (i x : ℕ) → x < i → renumbered (Insertion i) x ≡ x
insertion_keeps i x h = grind (arith, nat_tests)

-- Lists of numbers

pub insertion_returned_all : (i : ℕ) (xs : List ℕ)
    → map (renumbered (Removal i)) (map (renumbered (Insertion i)) xs) ≡ xs
insertion_returned_all i xs =
    map-undone (renumbered (Insertion i)) (renumbered (Removal i)) xs (λ k d h. insertion_returned i (get_or xs k d))

pub removal_returned_all : (i : ℕ) (xs : List ℕ) → All (λ x. x ≢ i) xs
    → map (renumbered (Insertion i)) (map (renumbered (Removal i)) xs) ≡ xs
removal_returned_all i xs ne =
    map-undone (renumbered (Removal i)) (renumbered (Insertion i)) xs
    (λ k d h. removal_returned i (get_or xs k d) (ne k d h))

pub move_returned_all : (i j : ℕ) (xs : List ℕ) → map (renumbered (Move j i)) (map (renumbered (Move i j)) xs) ≡ xs
move_returned_all i j xs =
    map-undone (renumbered (Move i j)) (renumbered (Move j i)) xs (λ k d h. move_returned i j (get_or xs k d))

-- The same, with the test for the number

pub removal_returned_by_test : (i x : ℕ) → (x == i) ≡ false → renumbered (Insertion i) (renumbered (Removal i) x) ≡ x
removal_returned_by_test i x h = grind (arith, nat_tests)

pub removal_below_by_test : (i x n : ℕ) → (x == i) ≡ false → i < n + 1 → x < n + 1 → renumbered (Removal i) x < n
removal_below_by_test i x n ne k h = grind (arith, nat_tests)

pub insertion_misses_by_test : (i x : ℕ) → (renumbered (Insertion i) x == i) ≡ false
insertion_misses_by_test i x = grind (arith, nat_tests)
