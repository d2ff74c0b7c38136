-- Properties of all members of a list.
use Rattle.std.proofs.Common.{◌≡◌, ℕ, List, [], ◌∷◌, map, refl, arith}
use Rattle.std.specs.Prelude.{sum_by}
use Rattle.std.specs.List.{AllByRecursion}
use Rattle.std.proofs.lemmas.List.Sums.{sum_by-cons}
pub use Rattle.bank_parts.proofs.ListLaws.{everywhere-insert as all_insert, everywhere-remove as all_remove}
pub use Rattle.bank_parts.proofs.Everywhere.{all_weaker, all_both, or_left, or_right, or_none, none_passes, passes_none}

pub all_always : {X : Type 0} (P : X → Type 0) → ((x : X) → P x) → (xs : List X) → AllByRecursion P xs
all_always P h [] = tt
all_always P h (x ∷ xs) = (h x, all_always P h xs)

-- two properties of each member imply a property of its image
pub all_map : {X Y : Type 0} (P R : X → Type 0) (Q : Y → Type 0) (f : X → Y) → ((x : X) → P x → R x → Q (f x))
    → (xs : List X) → AllByRecursion P xs → AllByRecursion R xs → AllByRecursion Q (map f xs)
all_map P R Q f to [] v w = tt
all_map P R Q f to (x ∷ xs) v w = (to x v.0 w.0, all_map P R Q f to xs v.1 w.1)

pub all_sent : {X Y : Type 0} (P : X → Type 0) (Q : Y → Type 0) (f : X → Y) → ((x : X) → P x → Q (f x))
    → (xs : List X) → AllByRecursion P xs → AllByRecursion Q (map f xs)
all_sent P Q f to [] v = tt
all_sent P Q f to (x ∷ xs) v = (to x v.0, all_sent P Q f to xs v.1)

pub map_kept : {X : Type 0} (f : X → X) (xs : List X) → AllByRecursion (λ x. f x ≡ x) xs → map f xs ≡ xs
map_kept f [] v = refl
map_kept f (x ∷ xs) v = λ i. v.0 i ∷ map_kept f xs v.1 i

pub map_back : {X : Type 0} (f g : X → X) (xs : List X) → AllByRecursion (λ x. g (f x) ≡ x) xs → map g (map f xs) ≡ xs
map_back f g [] v = refl
map_back f g (x ∷ xs) v = λ i. v.0 i ∷ map_back f g xs v.1 i

pub sum_kept : {X : Type 0} (measure : X → ℕ) (f : X → X) → ((x : X) → measure (f x) ≡ measure x) → (xs : List X)
    → sum_by measure (map f xs) ≡ sum_by measure xs
sum_kept measure f same [] = refl
sum_kept measure f same (x ∷ xs) =
    let rest = sum_kept measure f same xs in
    let old = sum_by-cons measure x xs in
    let new = sum_by-cons measure (f x) (map f xs) in
    let here = same x in
    omega (arith, rest, old, new, here)
