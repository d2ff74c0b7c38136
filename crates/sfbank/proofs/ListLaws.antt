-- Lists that grow at their ends.
use Rattle.std.proofs.Common.{◌≡◌, ◌+◌, ◌<◌, ◌++◌, ℕ, zero, suc, List, [], ◌∷◌, map, take, drop, length, get_or, refl, arith, ap, Result, Ok, Err, false, if◌then◌else◌}
use Rattle.std.specs.Result.{is_ok, is_err}
use Rattle.std.specs.List.{AllZip}

pub zip_more : {A B C D : Type 0} (R : C → D → Type 0) (f : A → C) (g : B → D) (xs : List A) (ys : List B) (i : ℕ) (d : A)
    (y : B) → i < length xs → AllZip R (map f (take i xs)) (map g ys) → R (f (get_or xs i d)) (g y)
    → AllZip R (map f (take (suc i) xs)) (map g (ys ++ y ∷ []))
zip_more R f g [] ys i d y l h r = absurd (omega (arith, l))
zip_more R f g (x ∷ xs) [] zero d y l h r = (r, tt)
zip_more R f g (x ∷ xs) (b ∷ ys) zero d y l h r = absurd h
zip_more R f g (x ∷ xs) [] (suc i) d y l h r = absurd h
zip_more R f g (x ∷ xs) (b ∷ ys) (suc i) d y l h r = (h.0, zip_more R f g xs ys i d y (omega (arith, l)) h.1 r)

-- a list, split at an index
pub split_at : {A : Type 0} (xs : List A) (i : ℕ) (d : A) → i < length xs
    → xs ≡ take i xs ++ get_or xs i d ∷ drop (suc i) xs
split_at [] i d l = absurd (omega (arith, l))
split_at (x ∷ xs) zero d l = refl
split_at (x ∷ xs) (suc i) d l = ap (λ ys. x ∷ ys) (split_at xs i d (omega (arith, l)))

pub map_split : {A C : Type 0} (f : A → C) (xs : List A) (y : A) (ys : List A)
    → map f (xs ++ y ∷ ys) ≡ map f xs ++ f y ∷ map f ys
map_split f [] y ys = refl
map_split f (x ∷ xs) y ys = ap (λ zs. f x ∷ zs) (map_split f xs y ys)

-- what was pushed is there where pushing did not fail
pub pushed_ok : {X T E : Type 0} (r : Result T E) (xs ys new : List X) → new ≡ (if is_ok r then xs else ys)
    → is_err r ≡ false → new ≡ xs
pushed_ok (Ok x) xs ys new h e = h
pushed_ok (Err x) xs ys new h e = absurd cc
