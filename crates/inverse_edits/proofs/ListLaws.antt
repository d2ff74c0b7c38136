-- Taking prefixes of appended lists, and reversing and zipping them.
use Rattle.std.proofs.Common.{◌≡◌, suc, ◌+◌, add-one, List, [], ◌∷◌, ◌++◌, map, reverse, length, take, refl, ap}
use Rattle.std.proofs.Common.{Some, arith}
use Rattle.std.proofs.lemmas.Grind.{common_steps}
use Rattle.std.specs.Prelude.{slice_get, zip}

pub get_seam : {X : Type 0} (xs ys : List X) (x : X) → slice_get (xs ++ x ∷ ys) (length xs) ≡ Some x
get_seam [] ys x = refl
get_seam (y ∷ xs) ys x = get_seam xs ys x

take_past : {X : Type 0} (xs ys : List X) (x : X) → take (suc (length xs)) (xs ++ x ∷ ys) ≡ xs ++ x ∷ []
take_past [] ys x = refl
take_past {X = X} (y ∷ xs) ys x = ap (λ (l : List X). y ∷ l) (take_past xs ys x)

pub take_past_seam : {X : Type 0} (xs ys : List X) (x : X) → take (length xs + 1) (xs ++ x ∷ ys) ≡ xs ++ x ∷ []
take_past_seam xs ys x = rw add-one (take_past xs ys x)

pub take_zip : {X Y : Type 0} (xs more : List X) (ys others : List Y) → length xs ≡ length ys
    → take (length ys) (zip (xs ++ more) (ys ++ others)) ≡ zip xs ys
take_zip [] more [] others same = refl
take_zip [] more (y ∷ ys) others same = absurd (omega (arith, same))
take_zip (x ∷ xs) more [] others same = absurd (omega (arith, same))
take_zip {X = X} {Y = Y} (x ∷ xs) more (y ∷ ys) others same =
    ap (λ (l : List (X × Y)). (x, y) ∷ l) (take_zip xs more ys others (omega (arith, same)))

pub map_zip_push : {X Y Z : Type 0} (f : X × Y → Z) (xs : List X) (ys : List Y) (x : X) (y : Y) → length xs ≡ length ys
    → map f (zip (xs ++ x ∷ []) (ys ++ y ∷ [])) ≡ map f (zip xs ys) ++ f (x, y) ∷ []
map_zip_push f [] [] x y same = refl
map_zip_push f [] (b ∷ ys) x y same = absurd (omega (arith, same))
map_zip_push f (a ∷ xs) [] x y same = absurd (omega (arith, same))
map_zip_push {Z = Z} f (a ∷ xs) (b ∷ ys) x y same =
    ap (λ (l : List Z). f (a, b) ∷ l) (map_zip_push f xs ys x y (omega (arith, same)))

pub reverse_push : {X : Type 0} (xs : List X) (x : X) → reverse (xs ++ x ∷ []) ≡ x ∷ reverse xs
reverse_push xs x = grind (arith, common_steps)

pub reverse_cons : {X : Type 0} (xs : List X) (x : X) → reverse (x ∷ xs) ≡ reverse xs ++ x ∷ []
reverse_cons xs x = grind (arith, common_steps)
