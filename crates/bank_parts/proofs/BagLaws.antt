-- What the code reads of one bag, and the owners after one of its records is removed.
use Rattle.std.proofs.Common.{if◌then◌else◌, ◌≡◌, ℕ, ◌<◌, ◌≤◌, ◌+◌, ◌-◌, ◌^◌, ◌==◌, Bool, List, length, remove}
use Rattle.std.proofs.Common.{slice_get, Option, Some, None, refl, sym, subst, ◌∙◌, ap, arith}
use Rattle.std.specs.Prelude.{min}
use Rattle.std.specs.Option.{IfSome, IsSome, IsSomeAnd}
use Rattle.std.proofs.lemmas.Bool.Decides.{nat_tests}
use Rattle.base_numbered_lists.specs.Moved.{changed}
use Rattle.base_numbered_lists.proofs.Lists.{slice_get-found}
use Rattle.modulators.specs.declared.modulator.Modulator.{Modulator}
use Rattle.flat_records.specs.Bags.{Bag}
use Rattle.flat_records.specs.Owned.{bag_at, bag_changed}
use Rattle.bank_parts.specs.Changes.{bag_size, record_removed}

pub some_of : {X : Type 0} (P : X → Type 0) (o : Option X) → IsSomeAnd o P → IsSome o
some_of P None h = absurd h
some_of P (Some x) h = refl

pub next_of : {X : Type 0} (f : X → ℕ) (j : ℕ) (o : Option X) → IsSomeAnd o (λ x. j < f x)
    → IsSomeAnd o (λ x. j + 1 ≤ f x)
next_of f j None h = absurd h
next_of f j (Some x) h = omega arith

pub first_of : (owners : List (List Bag)) (i : ℕ) → i < length owners
    → IsSomeAnd (slice_get owners i) (λ bags. 0 ≤ length bags)
first_of owners i h =
    let (xs, there) = slice_get-found owners i h in
    subst (λ o. IsSomeAnd o (λ (bags : List Bag). 0 ≤ length bags)) (sym there) (omega arith)

one_more : (n : ℕ) → (min n (2 ^ 64 - 1) == 1) ≡ (n == 1)
one_more n = grind (arith, nat_tests)

pub one_counted : (o : Option Bag) (gens : List (ℕ × ℕ)) (mods : List Modulator) (r : Bool)
    → IfSome o (λ (b : Bag). gens ≡ b.gens) → IfSome o (λ (b : Bag). mods ≡ b.mods)
    → r ≡ (min (length gens + length mods) (2 ^ 64 - 1) == 1) → IfSome o (λ (b : Bag). r ≡ (bag_size b == 1))
one_counted None gens mods r g m e = tt
one_counted (Some b) gens mods r g m e =
    e ∙ (one_more (length gens + length mods) ∙ (λ t. length (g t) + length (m t) == 1))

-- a record is removed from the bag, and the bag too if it was the last record
pub remove_record_at : (owners : List (List Bag)) (i k : ℕ) (F : Bag → Bag) (one : Bool) {new : List (List Bag)}
    {r : Bool}
    → IfSome (bag_at owners i k) (λ (b : Bag). r ≡ (bag_size b == 1)) → r ≡ one
    → new ≡ (if one then changed owners i (λ own. remove own k) else bag_changed owners i k F)
    → IfSome (bag_at owners i k) (λ (b : Bag). new ≡ record_removed owners i k F b)
remove_record_at owners i k F one {new} {r} h is e =
    (elim (bag_at owners i k) as (λ o. IfSome o (λ (b : Bag). r ≡ (bag_size b == 1))
    → IfSome o (λ (b : Bag). new ≡ record_removed owners i k F b)) [
      | None ↦ λ h. tt
      | Some b ↦ λ h.
          e ∙ ap (λ c. if c then changed owners i (λ own. remove own k) else bag_changed owners i k F) (sym is ∙ h)
    ]) h
