-- Sums and counts are zero when every element counts zero.
use Rattle.std.proofs.Common.{◌≡◌, ℕ, Bool, false, cond, List, [], ◌∷◌, map, refl, ap, arith}
use Rattle.std.specs.Prelude.{count_by, sum_by}
use Rattle.std.specs.List.{AllByRecursion}
use Rattle.std.proofs.lemmas.List.Sums.{sum_by-cons}

abbrev pub one_if : Bool → ℕ
one_if b = cond b 1 0

pub sum-none : {X : Type 0} (f : X → ℕ) (x : X) (xs : List X) → f x ≡ 0 → sum_by f xs ≡ 0 → sum_by f (x ∷ xs) ≡ 0
sum-none f x xs one rest = let whole = sum_by-cons f x xs in omega (arith, one, rest, whole)

pub count-none : {X : Type 0} (p : X → Bool) (x : X) (xs : List X) → p x ≡ false → count_by p xs ≡ 0
    → count_by p (x ∷ xs) ≡ 0
count-none p x xs one rest = sum-none (λ y. one_if (p y)) x xs (ap one_if one) rest

-- a sum over the images of the elements
pub sum-none_by : {X Y : Type 0} (P : X → Type 0) (f : Y → ℕ) (g : X → Y) → ((x : X) → P x → f (g x) ≡ 0)
    → (xs : List X) → AllByRecursion P xs → sum_by f (map g xs) ≡ 0
sum-none_by P f g h [] v = refl
sum-none_by P f g h (x ∷ xs) v = sum-none f (g x) (map g xs) (h x v.0) (sum-none_by P f g h xs v.1)
