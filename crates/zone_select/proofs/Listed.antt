-- The members of lists.
use Rattle.std.proofs.Common.{◌≡◌, ◌⊎◌, inl, inr, ◌≤◌, ◌<◌, ◌+◌, ℕ, zero, suc, Bool, true, false, cond, List, []}
use Rattle.std.proofs.Common.{◌∷◌, ◌++◌, map, refl, sym, ap, subst, ◌∙◌, arith}
use Rattle.std.proofs.lemmas.Bool.{cases_order}
use Rattle.std.specs.List.{Contains, flat_map, filter, range_with_len}

abbrev pub IsIn : {X : Type 0} → X → List X → Type 0
IsIn x [] = ⊥
IsIn x (y ∷ ys) = (y ≡ x) ⊎ IsIn x ys

module _ {X : Type 0} (x : X) where
  pub in_of_contains : (xs : List X) → Contains xs x → IsIn x xs
  in_of_contains [] (k, lt, e) = absurd (omega (arith, lt))
  in_of_contains (y ∷ ys) (zero, lt, e) = inl e
  in_of_contains (y ∷ ys) (suc k, lt, e) = inr (in_of_contains ys (k, omega (arith, lt), e))

  pub contains_of_in : (xs : List X) → IsIn x xs → Contains xs x
  contains_of_in [] h = absurd h
  contains_of_in (y ∷ ys) (inl e) = (0, omega arith, e)
  contains_of_in (y ∷ ys) (inr h) = let c = contains_of_in ys h in let lt = c.1 in (suc c.0, omega (arith, lt), c.2)

  -- ---- in two lists

  pub in_first : (xs ys : List X) → IsIn x xs → IsIn x (xs ++ ys)
  in_first [] ys h = absurd h
  in_first (z ∷ zs) ys (inl e) = inl e
  in_first (z ∷ zs) ys (inr h) = inr (in_first zs ys h)

  pub in_second : (xs ys : List X) → IsIn x ys → IsIn x (xs ++ ys)
  in_second [] ys h = h
  in_second (z ∷ zs) ys h = inr (in_second zs ys h)

  pub in_either : (xs ys : List X) → IsIn x (xs ++ ys) → IsIn x xs ⊎ IsIn x ys
  in_either [] ys h = inr h
  in_either (z ∷ zs) ys (inl e) = inl (inl e)
  in_either (z ∷ zs) ys (inr h) = elim (in_either zs ys h) [ inl a ↦ inl (inr a) | inr a ↦ inr a ]

  -- ---- in a filtered list

  passed : (test : X → Bool) (y : X) (ys : List X) (t : Bool) → test y ≡ t
      → (IsIn x (filter test ys) → IsIn x ys × (test x ≡ true)) → IsIn x (cond t (y ∷ filter test ys) (filter test ys))
      → IsIn x (y ∷ ys) × (test x ≡ true)
  passed test y ys true e h (inl s) = (inl s, subst (λ z. test z ≡ true) s e)
  passed test y ys true e h (inr k) = let r = h k in (inr r.0, r.1)
  passed test y ys false e h k = let r = h k in (inr r.0, r.1)

  pub in_filter : (test : X → Bool) (xs : List X) → IsIn x (filter test xs) → IsIn x xs × (test x ≡ true)
  in_filter test [] h = absurd h
  in_filter test (y ∷ ys) h = passed test y ys (test y) refl (in_filter test ys) h

  kept : (y : X) (ys : List X) (t : Bool) → IsIn x ys → IsIn x (cond t (y ∷ ys) ys)
  kept y ys true h = inr h
  kept y ys false h = h

  pub filter_in : (test : X → Bool) (xs : List X) → IsIn x xs → test x ≡ true → IsIn x (filter test xs)
  filter_in test [] h t = absurd h
  filter_in test (y ∷ ys) (inl e) t = let here : test y ≡ true = ap test e ∙ t in rw here (inl e)
  filter_in test (y ∷ ys) (inr h) t = kept y (filter test ys) (test y) (filter_in test ys h t)

-- ---- in a range of numbers

pub in_row : (a n k : ℕ) → a ≤ k → k < a + n → IsIn k (range_with_len a n)
in_row a zero k low high = absurd (omega (arith, low, high))
in_row a (suc n) k low high = elim (least a k low) [
  | inl e ↦ inl e
  | inr above ↦ inr (in_row (a + 1) n k above (omega (arith, high)))
]
  where
    least : (a k : ℕ) → a ≤ k → (a ≡ k) ⊎ (a + 1 ≤ k)
    least a k h = elim (cases_order a k) [
      | inl e ↦ inl e
      | inr (inl lt) ↦ inr (omega (arith, lt))
      | inr (inr gt) ↦ absurd (omega (arith, gt, h))
    ]

-- ---- in a flattened list

module _ {X Y : Type 0} (f : X → List Y) (y : Y) where
  -- the member whose image it is in
  pub record GivenBy (xs : List X) : Type 0 where
    pub member : X
    pub there : IsIn member xs
    pub gives : IsIn y (f member)

  pub in_flat_map : (xs : List X) → IsIn y (flat_map f xs) → GivenBy xs
  in_flat_map [] h = absurd h
  in_flat_map (x ∷ xs) h = elim (in_either y (f x) (flat_map f xs) h) [
    | inl a ↦ record { member = x; there = inl refl; gives = a }
    | inr a ↦ let g = in_flat_map xs a in record { member = g.member; there = inr g.there; gives = g.gives }
  ]

  pub flat_map_in : (xs : List X) (x : X) → IsIn x xs → IsIn y (f x) → IsIn y (flat_map f xs)
  flat_map_in [] x h g = absurd h
  flat_map_in (z ∷ zs) x (inl e) g = in_first y (f z) (flat_map f zs) (subst (λ x. IsIn y (f x)) (sym e) g)
  flat_map_in (z ∷ zs) x (inr h) g = in_second y (f z) (flat_map f zs) (flat_map_in zs x h g)

module _ {X Y : Type 0} (f : X → Y) where
  pub record SentFrom (y : Y) (xs : List X) : Type 0 where
    pub member : X
    pub there : IsIn member xs
    pub maps_to : f member ≡ y

  pub in_map : (y : Y) (xs : List X) → IsIn y (map f xs) → SentFrom y xs
  in_map y [] h = absurd h
  in_map y (x ∷ xs) (inl e) = record { member = x; there = inl refl; maps_to = e }
  in_map y (x ∷ xs) (inr h) = let s = in_map y xs h in record { member = s.member; there = inr s.there; maps_to = s.maps_to }

  pub map_in : (x : X) (xs : List X) → IsIn x xs → IsIn (f x) (map f xs)
  map_in x [] h = absurd h
  map_in x (z ∷ zs) (inl e) = inl (ap f e)
  map_in x (z ∷ zs) (inr h) = inr (map_in x zs h)
