-- The elements before the first that doesn't pass a test, and their images.
use Rattle.std.proofs.Common.{◌≡◌, ◌∙◌, ◌||◌, ◌∷◌, Bool, true, false, List, [], ap, cond, map, refl, sym}
use Rattle.std.specs.List.{list_any, take_while}
use Rattle.std.proofs.lemmas.List.Sums.{take_while-cons}

module _ {A B : Type 0} (f : A → B) (test pass : B → Bool) where
  -- a test finds one among the elements before the first whose image doesn't pass, or among those images, alike
  pub any_before : (xs : List A) → list_any (λ x. test (f x)) (take_while (λ x. pass (f x)) xs)
      ≡ list_any test (take_while pass (map f xs))
  any_before [] = refl
  any_before (x ∷ xs) =
      ap (list_any (λ x. test (f x))) (take_while-cons (λ x. pass (f x)) x xs)
      ∙ go (pass (f x)) (any_before xs)
      ∙ sym (ap (list_any test) (take_while-cons pass (f x) (map f xs)))
    where
      go : (b : Bool) → list_any (λ x. test (f x)) (take_while (λ x. pass (f x)) xs)
          ≡ list_any test (take_while pass (map f xs))
          → list_any (λ x. test (f x)) (cond b (x ∷ take_while (λ x. pass (f x)) xs) [])
          ≡ list_any test (cond b (f x ∷ take_while pass (map f xs)) [])
      go true rest = ap (λ b. test (f x) || b) rest
      go false rest = refl
