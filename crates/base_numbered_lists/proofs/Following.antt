-- Renumbered numbers refer to the same members.
use Rattle.std.proofs.Common.{◌≡◌, ◌≢◌, ℕ, ◌<◌, ◌≤◌, ◌⊎◌, inl, inr, suc, zero, List, length, insert, remove}
use Rattle.std.proofs.Common.{slice_get, sym, ◌∙◌, ap, arith}
use Rattle.std.proofs.lemmas.Bool.{cases_lt, cases_eq}
use Rattle.std.proofs.lemmas.Bool.Decides.{nat_tests}
use Rattle.std.proofs.lemmas.List.Edits.{length-remove}
use Rattle.base_numbered_lists.specs.declared.renumbering.Renumbering.TheVariants.{Insertion, Removal, Move}
use Rattle.base_numbered_lists.specs.Moved.{moved}
use Rattle.base_numbered_lists.specs.Renumbered.{renumbered}
use Rattle.base_numbered_lists.proofs.Lists.{slice_get-found, slice_get-insert_below, slice_get-insert_above}
use Rattle.base_numbered_lists.proofs.Lists.{slice_get-remove_below, slice_get-remove_above}
use Rattle.base_numbered_lists.proofs.Lists.{moved-found, slice_get-moved}
use Rattle.base_numbered_lists.proofs.Numbers.{move_in_two, move_renumbers}

-- The cases of a number.
insertion_at : (i k : ℕ)
    → ((k < i) × (renumbered (Insertion i) k ≡ k)) ⊎ ((i ≤ k) × (renumbered (Insertion i) k ≡ suc k))
insertion_at i k = grind (arith, nat_tests, cases_lt)

removal_at : (i k : ℕ) → k ≢ i
    → ((k < i) × (renumbered (Removal i) k ≡ k)) ⊎ ((m : ℕ) × (i ≤ m) × (k ≡ suc m) × (renumbered (Removal i) k ≡ m))
removal_at i zero ne = inl (grind (arith, nat_tests))
removal_at i (suc m) ne = grind (arith, nat_tests)

pub insertion_followed : {X : Type 0} (xs : List X) (i : ℕ) (x : X) (k : ℕ) → i ≤ length xs
    → slice_get (insert xs i x) (renumbered (Insertion i) k) ≡ slice_get xs k
insertion_followed xs i x k h =
    elim (insertion_at i k) [
      | inl (below, e) ↦ ap (slice_get (insert xs i x)) e ∙ slice_get-insert_below xs i x k h below
      | inr (above, e) ↦ ap (slice_get (insert xs i x)) e ∙ slice_get-insert_above xs i x k h above
    ]

pub removal_followed : {X : Type 0} (xs : List X) (i k : ℕ) → k ≢ i
    → slice_get (remove xs i) (renumbered (Removal i) k) ≡ slice_get xs k
removal_followed xs i k ne =
    elim (removal_at i k ne) [
      | inl (below, e) ↦ ap (slice_get (remove xs i)) e ∙ slice_get-remove_below xs i k below
      | inr (m, above, is, e) ↦ ap (slice_get (remove xs i)) e
          ∙ (slice_get-remove_above xs i m above ∙ ap (slice_get xs) (sym is))
    ]

pub move_followed : {X : Type 0} (xs : List X) (i j k : ℕ) → i < length xs → j < length xs
    → slice_get (moved xs i j) (renumbered (Move i j) k) ≡ slice_get xs k
move_followed xs i j k h l =
    elim (cases_eq k i) [
      | inl same ↦ ap (slice_get (moved xs i j)) (move_renumbers i j k same)
          ∙ (slice_get-moved xs i j h l ∙ ap (slice_get xs) (sym same))
      | inr ne ↦
          let (x, e) = slice_get-found xs i h in
          let size = length-remove xs i h in
          ap (slice_get (moved xs i j)) (move_in_two i j k ne)
          ∙ (ap (λ zs. slice_get zs (renumbered (Insertion j) (renumbered (Removal i) k))) (moved-found xs i j x e)
          ∙ (insertion_followed (remove xs i) j x (renumbered (Removal i) k) (omega arith)
          ∙ removal_followed xs i k ne))
    ]
