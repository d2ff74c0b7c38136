-- A property of every element of each list holds for every element of the joined list.
use Rattle.std.proofs.Common.{List, [], ◌∷◌, ◌++◌}
use Rattle.std.specs.Prelude.{flat_map}
use Rattle.std.specs.List.{AllByRecursion}

pub all-append : {X : Type 0} (P : X → Type 0) (xs ys : List X) → AllByRecursion P xs → AllByRecursion P ys
    → AllByRecursion P (xs ++ ys)
all-append P [] ys v k = k
all-append P (x ∷ xs) ys v k = (v.0, all-append P xs ys v.1 k)

pub all-flat_map : {X Y : Type 0} (P : X → Type 0) (Q : Y → Type 0) (f : Y → List X)
    → ((y : Y) → Q y → AllByRecursion P (f y)) → (ys : List Y) → AllByRecursion Q ys
    → AllByRecursion P (flat_map f ys)
all-flat_map P Q f h [] v = tt
all-flat_map P Q f h (y ∷ ys) v = all-append P (f y) (flat_map f ys) (h y v.0) (all-flat_map P Q f h ys v.1)
