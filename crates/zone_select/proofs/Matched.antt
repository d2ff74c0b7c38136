-- Lists and options whose members are related one by one, and functions of them.
use Rattle.std.proofs.Common.{◌≡◌, ℕ, suc, zero, Bool, true, false, cond, Option, Some, None, List, [], ◌∷◌, map}
use Rattle.std.proofs.Common.{slice_set, slice_get, length, refl, sym, ap, subst}
use Rattle.std.specs.List.{find, AllByRecursion}
use Rattle.std.specs.List.Sorted.{IsPermutation}
use Rattle.std.specs.Option.{option_map_or, option_map}
use Rattle.std.proofs.lemmas.List.Sorted.{IsPermutation-refl}
use Rattle.base_numbered_lists.specs.Moved.{changed}

abbrev pub Matched : {X Y : Type 0} → (X → Y → Type 0) → List X → List Y → Type 0
Matched R [] [] = Unit {0}
Matched R [] (y ∷ ys) = ⊥
Matched R (x ∷ xs) [] = ⊥
Matched R (x ∷ xs) (y ∷ ys) = R x y × Matched R xs ys

abbrev pub MatchedOption : {X Y : Type 0} → (X → Y → Type 0) → Option X → Option Y → Type 0
MatchedOption R None None = Unit {0}
MatchedOption R None (Some y) = ⊥
MatchedOption R (Some x) None = ⊥
MatchedOption R (Some x) (Some y) = R x y

module _ {X Y : Type 0} (R : X → Y → Type 0) where
  pub matched-get : (xs : List X) (ys : List Y) (k : ℕ) → Matched R xs ys
      → MatchedOption R (slice_get xs k) (slice_get ys k)
  matched-get [] [] k h = tt
  matched-get [] (y ∷ ys) k h = absurd h
  matched-get (x ∷ xs) [] k h = absurd h
  matched-get (x ∷ xs) (y ∷ ys) zero h = h.0
  matched-get (x ∷ xs) (y ∷ ys) (suc k) h = matched-get xs ys k h.1

  pub matched-find : (p : X → Bool) (q : Y → Bool) → ((x : X) (y : Y) → R x y → p x ≡ q y) → (xs : List X) (ys : List Y)
      → Matched R xs ys → MatchedOption R (find p xs) (find q ys)
  matched-find p q e [] [] h = tt
  matched-find p q e [] (y ∷ ys) h = absurd h
  matched-find p q e (x ∷ xs) [] h = absurd h
  matched-find p q e (x ∷ xs) (y ∷ ys) h =
      let at : (t : Bool) → MatchedOption R (cond t (Some x) (find p xs)) (cond t (Some y) (find q ys)) =
      elim [ true ↦ h.0 | false ↦ matched-find p q e xs ys h.1 ] in
      subst (λ t. MatchedOption R (cond (p x) (Some x) (find p xs)) (cond t (Some y) (find q ys))) (e x y h.0)
      (at (p x))

  pub matched-or : {Z : Type 0} (f : X → List Z) (g : Y → List Z)
      → ((x : X) (y : Y) → R x y → IsPermutation (f x) (g y)) → (o : Option X) (p : Option Y) → MatchedOption R o p
      → IsPermutation (option_map_or f o []) (option_map_or g p [])
  matched-or f g e None None h = IsPermutation-refl []
  matched-or f g e None (Some y) h = absurd h
  matched-or f g e (Some x) None h = absurd h
  matched-or f g e (Some x) (Some y) h = e x y h

  pub matched-same_or : {Z : Type 0} (f : X → Z) (g : Y → Z) (d : Z) → ((x : X) (y : Y) → R x y → f x ≡ g y)
      → (o : Option X) (p : Option Y) → MatchedOption R o p → option_map_or f o d ≡ option_map_or g p d
  matched-same_or f g d e None None h = refl
  matched-same_or f g d e None (Some y) h = absurd h
  matched-same_or f g d e (Some x) None h = absurd h
  matched-same_or f g d e (Some x) (Some y) h = e x y h

  pub matched-long : (xs : List X) (ys : List Y) → Matched R xs ys → length xs ≡ length ys
  matched-long [] [] h = refl
  matched-long [] (y ∷ ys) h = absurd h
  matched-long (x ∷ xs) [] h = absurd h
  matched-long (x ∷ xs) (y ∷ ys) h = ap suc (matched-long xs ys h.1)

  pub matched-map : (f : X → Y) (xs : List X) → AllByRecursion (λ x. R x (f x)) xs → Matched R xs (map f xs)
  matched-map f [] h = tt
  matched-map f (x ∷ xs) h = (h.0, matched-map f xs h.1)

  pub matched-option_map : (f : X → Y) → ((x : X) → R x (f x)) → (o : Option X) → MatchedOption R o (option_map f o)
  matched-option_map f h None = tt
  matched-option_map f h (Some x) = h x

pub changed-cons : {X : Type 0} (x : X) (xs : List X) (k : ℕ) (f : X → X)
    → changed (x ∷ xs) (suc k) f ≡ x ∷ changed xs k f
changed-cons x xs k f =
    elim (slice_get xs k) as
    (λ o.
    option_map_or (λ y. slice_set (x ∷ xs) (suc k) (f y)) o (x ∷ xs)
    ≡ x ∷ option_map_or (λ y. slice_set xs k (f y)) o xs)
    [ None ↦ refl | Some y ↦ refl ]

module _ {X : Type 0} (R : X → X → Type 0) (same : (x : X) → R x x) where
  pub matched-same : (xs : List X) → Matched R xs xs
  matched-same [] = tt
  matched-same (x ∷ xs) = (same x, matched-same xs)

  pub matched-changed : (f : X → X) (xs : List X) (k : ℕ) → ((x : X) → slice_get xs k ≡ Some x → R x (f x))
      → Matched R xs (changed xs k f)
  matched-changed f [] k h = tt
  matched-changed f (x ∷ xs) zero h = (h x refl, matched-same xs)
  matched-changed f (x ∷ xs) (suc k) h =
      subst (Matched R (x ∷ xs)) (sym (changed-cons x xs k f)) (same x, matched-changed f xs k h)

  pub matched-option_same : (o : Option X) → MatchedOption R o o
  matched-option_same None = tt
  matched-option_same (Some x) = same x
