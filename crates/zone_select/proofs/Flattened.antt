-- A flattened list after a member is moved, replaced by two, or joined with the next.
use Rattle.std.proofs.Common.{◌≡◌, ℕ, ◌+◌, suc, zero, Some, None, List, [], ◌∷◌, ◌++◌, slice_set, slice_get, insert}
use Rattle.std.proofs.Common.{remove, take, drop, refl, sym, ap, subst, ◌∙◌, append_assoc, add-one, take-append-drop}
use Rattle.std.specs.List.{flat_map}
use Rattle.std.specs.List.Sorted.{IsPermutation}
use Rattle.std.specs.Option.{option_map_or}
use Rattle.std.proofs.lemmas.List.Concat.{flat_map-append}
use Rattle.std.proofs.lemmas.List.Sorted.{IsPermutation-refl, IsPermutation-sym, IsPermutation-trans}
use Rattle.std.proofs.lemmas.List.Sorted.{IsPermutation-append_left, IsPermutation-append_comm}
use Rattle.base_numbered_lists.specs.Moved.{moved}
use Rattle.base_numbered_lists.proofs.Lists.{insert-remove}
use Rattle.bank_zone_ranges.specs.Splits.{split_in_two, merged}

module _ {Z : Type 0} where
  exchange : (a b c : List Z) → IsPermutation (a ++ (b ++ c)) (b ++ (a ++ c))
  exchange a b c =
      subst (λ l. IsPermutation (a ++ (b ++ c)) l) (append_assoc b a c)
      (subst (λ l. IsPermutation l ((b ++ a) ++ c)) (append_assoc a b c)
      (IsPermutation-append_left c (a ++ b) (b ++ a) (IsPermutation-append_comm a b)))

module _ {X Z : Type 0} (f : X → List Z) where
  pub flat_map-insert : (xs : List X) (i : ℕ) (x : X)
      → IsPermutation (f x ++ flat_map f xs) (flat_map f (insert xs i x))
  flat_map-insert xs i x =
      let whole : flat_map f (take i xs) ++ flat_map f (drop i xs) ≡ flat_map f xs =
      sym (flat_map-append f (take i xs) (drop i xs)) ∙ ap (flat_map f) (take-append-drop i xs) in
      subst (λ l. IsPermutation (f x ++ l) (flat_map f (insert xs i x))) whole
      (subst (λ l. IsPermutation (f x ++ (flat_map f (take i xs) ++ flat_map f (drop i xs))) l)
      (sym (flat_map-append f (take i xs) (x ∷ drop i xs)))
      (exchange (f x) (flat_map f (take i xs)) (flat_map f (drop i xs))))

  pub flat_map-remove : (xs : List X) (i : ℕ) (x : X) → slice_get xs i ≡ Some x
      → IsPermutation (flat_map f xs) (f x ++ flat_map f (remove xs i))
  flat_map-remove xs i x e =
      IsPermutation-sym _ _
      (subst (λ l. IsPermutation (f x ++ flat_map f (remove xs i)) (flat_map f l)) (insert-remove xs i x e)
      (flat_map-insert (remove xs i) i x))

  pub flat_map-moved : (xs : List X) (i j : ℕ) → IsPermutation (flat_map f xs) (flat_map f (moved xs i j))
  flat_map-moved xs i j =
      elim (slice_get xs i) as
      (λ o.
      slice_get xs i ≡ o
      → IsPermutation (flat_map f xs) (flat_map f (option_map_or (λ x. insert (remove xs i) j x) o xs))) [
        | None ↦ λ e. IsPermutation-refl (flat_map f xs)
        | Some x ↦ λ e. IsPermutation-trans _ _ _ (flat_map-remove xs i x e) (flat_map-insert (remove xs i) j x)
      ] refl

  split_in_two-next : (xs : List X) (k : ℕ) (x y z : X) → slice_get xs k ≡ Some z → f z ≡ f x ++ f y
      → flat_map f xs ≡ flat_map f (slice_set (insert xs (suc k) y) k x)
  split_in_two-next [] k x y z e h = cc
  split_in_two-next (w ∷ ws) zero x y z e h =
      let same : w ≡ z = cc in
      ap (λ l. l ++ flat_map f ws) (ap f same ∙ h) ∙ append_assoc (f x) (f y) (flat_map f ws)
  split_in_two-next (w ∷ ws) (suc k) x y z e h = ap (λ l. f w ++ l) (split_in_two-next ws k x y z e h)

  pub flat_map-split_in_two : (xs : List X) (k : ℕ) (x y z : X) → slice_get xs k ≡ Some z → f z ≡ f x ++ f y
      → flat_map f xs ≡ flat_map f (split_in_two xs k x y)
  flat_map-split_in_two xs k x y z e h =
      split_in_two-next xs k x y z e h ∙ ap (λ i. flat_map f (slice_set (insert xs i y) k x)) (sym (add-one k))

  merged-next : (xs : List X) (k : ℕ) (x y z : X) → slice_get xs k ≡ Some y → slice_get xs (suc k) ≡ Some z
      → f x ≡ f y ++ f z → flat_map f xs ≡ flat_map f (slice_set (remove xs (suc k)) k x)
  merged-next [] k x y z e g h = cc
  merged-next (v ∷ []) zero x y z e g h = cc
  merged-next (v ∷ w ∷ ws) zero x y z e g h =
      let first : v ≡ y = cc in
      let second : w ≡ z = cc in
      (λ i. f (first i) ++ (f (second i) ++ flat_map f ws)) ∙ sym (append_assoc (f y) (f z) (flat_map f ws))
      ∙ ap (λ l. l ++ flat_map f ws) (sym h)
  merged-next (w ∷ ws) (suc k) x y z e g h = ap (λ l. f w ++ l) (merged-next ws k x y z e g h)

  pub flat_map-merged : (xs : List X) (k : ℕ) (x y z : X) → slice_get xs k ≡ Some y → slice_get xs (k + 1) ≡ Some z
      → f x ≡ f y ++ f z → flat_map f xs ≡ flat_map f (merged xs k x)
  flat_map-merged xs k x y z e g h =
      merged-next xs k x y z e (ap (slice_get xs) (sym (add-one k)) ∙ g) h
      ∙ ap (λ i. flat_map f (slice_set (remove xs i) k x)) (sym (add-one k))
