-- Numbers that pass a test, in ascending order.
use Rattle.std.proofs.Common.{◌≡◌, ◌≤◌, ◌<◌, ℕ, zero, suc, ◌+◌, ◌-◌, ◌⊎◌, inl, inr, get_or, Bool, true, false, cond}
use Rattle.std.proofs.Common.{List, [], ◌∷◌, ◌++◌, length, drop, Option, Some, None, slice_get, refl, sym, ap, ◌∙◌}
use Rattle.std.proofs.Common.{arith}
use Rattle.std.specs.List.{flat_map, find, filter, range_with_len}
use Rattle.std.specs.Option.{option_map_or}
use Rattle.std.proofs.lemmas.Option.{slice_get_cases}
use Rattle.std.proofs.lemmas.List.Concat.{flat_map-append}

-- those from a to below c
abbrev pub numbers : (ℕ → Bool) → ℕ → ℕ → List ℕ
numbers test a c = filter test (range_with_len a (c - a))

pub numbers_end : (test : ℕ → Bool) (a c : ℕ) → c ≤ a → numbers test a c ≡ []
numbers_end test a c h = let e : c - a ≡ 0 = omega (arith, h) in rw e refl

pub numbers_hit : (test : ℕ → Bool) (a c : ℕ) → a < c → test a ≡ true → numbers test a c ≡ a ∷ numbers test (a + 1) c
numbers_hit test a c h t = let e : c - a ≡ suc (c - (a + 1)) = omega (arith, h) in rw (e, t) refl

pub numbers_miss : (test : ℕ → Bool) (a c : ℕ) → a < c → test a ≡ false → numbers test a c ≡ numbers test (a + 1) c
numbers_miss test a c h t = let e : c - a ≡ suc (c - (a + 1)) = omega (arith, h) in rw (e, t) refl

-- ---- the first member that passes

pub first_at : {X : Type 0} (test : X → Bool) (xs : List X) (k : ℕ) (x : X) → slice_get xs k ≡ Some x
    → find test (drop k xs) ≡ cond (test x) (Some x) (find test (drop (suc k) xs))
first_at test [] k x e = cc
first_at test (y ∷ ys) zero x e = let same : y ≡ x = cc in rw same refl
first_at test (y ∷ ys) (suc k) x e = first_at test ys k x e

pub first_hit : {X : Type 0} (test : X → Bool) (xs : List X) (k : ℕ) → find test xs ≡ find test (drop k xs)
    → option_map_or test (slice_get xs k) false ≡ true → find test xs ≡ slice_get xs k
first_hit {X} test xs k e h = from (slice_get xs k) refl h
  where
    from : (o : Option X) → slice_get xs k ≡ o → option_map_or test o false ≡ true → find test xs ≡ slice_get xs k
    from None f h = cc
    from (Some x) f h = e ∙ first_at test xs k x f ∙ rw h (sym f)

pub first_miss : {X : Type 0} (test : X → Bool) (xs : List X) (k : ℕ) → k < length xs
    → option_map_or test (slice_get xs k) false ≡ false → find test (drop k xs) ≡ find test (drop (k + 1) xs)
first_miss {X} test xs k l h =
    from (slice_get xs k) refl h ∙ ap (λ (j : ℕ). find test (drop j xs)) (let s : suc k ≡ k + 1 = omega arith in s)
  where
    from : (o : Option X) → slice_get xs k ≡ o → option_map_or test o false ≡ false
        → find test (drop k xs) ≡ find test (drop (suc k) xs)
    from None f h = absurd (past (slice_get_cases xs k).1 f)
      where
        past : ((x : X) × (k < length xs) × (slice_get xs k ≡ Some x) × (get_or xs k x ≡ x))
            ⊎ ((length xs ≤ k) × (slice_get xs k ≡ None))
            → slice_get xs k ≡ None → ⊥
        past (inl r) f = let e = r.2 in cc
        past (inr r) f = let e = r.0 in omega (arith, l, e)
    from (Some x) f h = first_at test xs k x f ∙ rw h refl

-- ---- by numbers, or by the members themselves

joined : {Z : Type 0} (b : Bool) (x y r s : List Z) → (b ≡ true → x ≡ y) → r ≡ s → cond b (x ++ r) r ≡ cond b y [] ++ s
joined true x y r s e f = ap (λ l. l ++ r) (e refl) ∙ ap (λ l. y ++ l) f
joined false x y r s e f = f

flat_map_if : {Z : Type 0} (g : ℕ → List Z) (b : Bool) (a : ℕ) (ks : List ℕ)
    → flat_map g (cond b (a ∷ ks) ks) ≡ cond b (g a ++ flat_map g ks) (flat_map g ks)
flat_map_if g true a ks = refl
flat_map_if g false a ks = refl

pub by_number : {X Z : Type 0} (test : ℕ → Bool) (t : X → Bool) (g : ℕ → List Z) (h : X → List Z) (from : ℕ)
    (xs : List X)
    → ((k : ℕ) (x : X) → slice_get xs k ≡ Some x → test (from + k) ≡ t x)
    → ((k : ℕ) (x : X) → slice_get xs k ≡ Some x → t x ≡ true → g (from + k) ≡ h x)
    → flat_map g (filter test (range_with_len from (length xs))) ≡ flat_map (λ x. cond (t x) (h x) []) xs
by_number test t g h from [] same e = refl
by_number test t g h from (x ∷ xs) same e =
    let rest = by_number test t g h (from + 1) xs
    (λ k y f. ap test (let s : from + 1 + k ≡ from + suc k = omega arith in s) ∙ same (suc k) y f)
    (λ k y f p. ap g (let s : from + 1 + k ≡ from + suc k = omega arith in s) ∙ e (suc k) y f p) in
    let zeroth : from ≡ from + 0 = omega arith in
    flat_map_if g (test from) from (filter test (range_with_len (from + 1) (length xs)))
    ∙ ap
    (λ (b : Bool).
    cond b (g from ++ flat_map g (filter test (range_with_len (from + 1) (length xs))))
    (flat_map g (filter test (range_with_len (from + 1) (length xs)))))
    (ap test zeroth ∙ same 0 x refl)
    ∙ joined (t x) (g from) (h x) _ _ (λ p. ap g zeroth ∙ e 0 x refl p) rest

pub flat_map-flat_map : {A B C : Type 0} (f : B → List C) (g : A → List B) (xs : List A)
    → flat_map f (flat_map g xs) ≡ flat_map (λ x. flat_map f (g x)) xs
flat_map-flat_map f g [] = refl
flat_map-flat_map f g (x ∷ xs) =
    flat_map-append f (g x) (flat_map g xs) ∙ ap (λ l. flat_map f (g x) ++ l) (flat_map-flat_map f g xs)
