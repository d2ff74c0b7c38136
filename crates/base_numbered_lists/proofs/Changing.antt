-- A list whose members are changed one after another.
use Rattle.std.proofs.Common.{◌≡◌, ◌<◌, ◌≤◌, ◌+◌, ◌++◌, ◌∷◌, [], suc, zero, ℕ, List, length, map, take, drop, slice_get}
use Rattle.std.proofs.Common.{Option, Some, None, refl, sym, ◌∙◌, ap, append-nil}
use Rattle.std.specs.Option.{IsSomeAnd}
use Rattle.std.proofs.lemmas.List.{take_all, drop_all}
use Rattle.std.proofs.lemmas.List.Edits.{map_over_more}
use Rattle.std.proofs.lemmas.Option.{get_or_from_slice_get}
use Rattle.base_numbered_lists.specs.Moved.{changed}
use Rattle.base_numbered_lists.proofs.Lists.{changed-found, slice_get-found, slice_get-within}

pub found : {X : Type 0} (P : X → Type 0) (o : Option X) → IsSomeAnd o P → (x : X) × (o ≡ Some x) × P x
found P None h = absurd h
found P (Some x) h = (x, refl, h)

-- The first k members are changed by f.
module _ {X : Type 0} (f : X → X) where
  pub next_same : (xs : List X) (k : ℕ) → slice_get (map f (take k xs) ++ drop k xs) k ≡ slice_get xs k
  next_same [] zero = refl
  next_same [] (suc k) = refl
  next_same (x ∷ xs) zero = refl
  next_same (x ∷ xs) (suc k) = next_same xs k

  pub next_changed : (xs : List X) (k : ℕ) (x : X) → slice_get xs k ≡ Some x
      → changed (map f (take k xs) ++ drop k xs) k f ≡ map f (take (k + 1) xs) ++ drop (k + 1) xs
  next_changed xs k x e =
      let ys = map f (take k xs) ++ drop k xs in
      let there = next_same xs k ∙ e in
      changed-found ys k f x there
      ∙ map_over_more f xs ys k x (slice_get-within xs k x e) refl (sym (get_or_from_slice_get ys k x x there))

  pub next_done : (xs ys : List X) (k : ℕ) → ys ≡ map f (take k xs) ++ drop k xs → k < length xs
      → changed ys k f ≡ map f (take (k + 1) xs) ++ drop (k + 1) xs
  next_done xs ys k done h =
      let (x, e) = slice_get-found xs k h in ap (λ zs. changed zs k f) done ∙ next_changed xs k x e

  pub all_done : (xs : List X) (k : ℕ) → length xs ≤ k → map f (take k xs) ++ drop k xs ≡ map f xs
  all_done xs k h = rw (take_all k xs h, drop_all k xs h) (append-nil (map f xs))

  pub same_length : (xs : List X) (k : ℕ) → length (map f (take k xs) ++ drop k xs) ≡ length xs
  same_length [] zero = refl
  same_length [] (suc k) = refl
  same_length (x ∷ xs) zero = refl
  same_length (x ∷ xs) (suc k) = ap suc (same_length xs k)
