-- Filtering the lists of consecutive numbers, if all members that pass are those of one number.
use Rattle.std.proofs.Common.{◌≡◌, ◌≢◌, ◌≤◌, ◌<◌, inl, inr, ℕ, zero, suc, ◌+◌, ◌&&◌, ◌||◌, Bool, true, false, cond}
use Rattle.std.proofs.Common.{List, [], ◌∷◌, ◌++◌, length, Option, Some, None, refl, sym, ap, ◌∙◌, arith}
use Rattle.std.specs.List.{flat_map, filter, filter_map, cons_option, list_any, range_with_len}
use Rattle.std.proofs.lemmas.Bool.{cases_order, cases_lt}
use Rattle.std.proofs.lemmas.List.{append-nil}
use Rattle.std.proofs.lemmas.List.Elements.{filter-append}

-- an option as a list
abbrev pub as_list : {X : Type 0} → Option X → List X
as_list o = cons_option o []

with_rest : {X : Type 0} (o : Option X) (xs : List X) → cons_option o xs ≡ as_list o ++ xs
with_rest None xs = refl
with_rest (Some x) xs = refl

pub options_flat : {X : Type 0} (h : ℕ → Option X) (ks : List ℕ) → filter_map h ks ≡ flat_map (λ k. as_list (h k)) ks
options_flat h [] = refl
options_flat h (k ∷ ks) = with_rest (h k) (filter_map h ks) ∙ ap (λ xs. as_list (h k) ++ xs) (options_flat h ks)

module _ {X : Type 0} (test : X → Bool) (g : ℕ → List X) (k : ℕ) (others : (j : ℕ) → j ≢ k → filter test (g j) ≡ [])
  where
    abbrev row : ℕ → ℕ → List X
    row a n = filter test (flat_map g (range_with_len a n))

    -- with one more number before them
    next : (a n : ℕ) → row a (suc n) ≡ filter test (g a) ++ row (a + 1) n
    next a n = filter-append test (g a) (flat_map g (range_with_len (a + 1) n))

    passed : (a n : ℕ) → a ≢ k → row a (suc n) ≡ row (a + 1) n
    passed a n h = next a n ∙ ap (λ xs. xs ++ row (a + 1) n) (others a h)

    above : (a n : ℕ) → k < a → row a n ≡ []
    above a zero h = refl
    above a (suc n) h = passed a n (omega (arith, h)) ∙ above (a + 1) n (omega (arith, h))

    below : (a n : ℕ) → a + n ≤ k → row a n ≡ []
    below a zero h = refl
    below a (suc n) h = passed a n (omega (arith, h)) ∙ below (a + 1) n (omega (arith, h))

    here : (a n : ℕ) → a ≡ k → row a (suc n) ≡ filter test (g k)
    here a n e =
        next a n ∙ ap (λ xs. filter test (g a) ++ xs) (above (a + 1) n (omega (arith, e)))
        ∙ append-nil (filter test (g a)) ∙ ap (λ j. filter test (g j)) e

    found : (a n : ℕ) → a ≤ k → k < a + n → row a n ≡ filter test (g k)
    found a zero low high = absurd (omega (arith, low, high))
    found a (suc n) low high = elim (cases_order a k) [
      | inl e ↦ here a n e
      | inr (inl lt) ↦ passed a n (omega (arith, lt)) ∙ found (a + 1) n (omega (arith, lt)) (omega (arith, high))
      | inr (inr gt) ↦ absurd (omega (arith, gt, low))
    ]

    -- those of the one number; also if it is out of range, when it has none
    pub kept : (n : ℕ) → (n ≤ k → filter test (g k) ≡ []) → row 0 n ≡ filter test (g k)
    kept n past = elim (cases_lt k n) [
      | inl lt ↦ found 0 n (omega arith) (omega (arith, lt))
      | inr ge ↦ below 0 n (omega (arith, ge)) ∙ sym (past ge)
    ]

-- a list none of whose members passes
pub none_kept : {X : Type 0} (test : X → Bool) (h : ℕ → Option X) → ((j : ℕ) → filter test (as_list (h j)) ≡ [])
    → (ks : List ℕ) → filter test (flat_map (λ j. as_list (h j)) ks) ≡ []
none_kept test h none [] = refl
none_kept test h none (j ∷ ks) =
    filter-append test (as_list (h j)) (flat_map (λ j. as_list (h j)) ks)
    ∙ ap (λ xs. xs ++ filter test (flat_map (λ j. as_list (h j)) ks)) (none j) ∙ none_kept test h none ks

-- two tests together, or one after the other
pub any_kept : {X : Type 0} (test also : X → Bool) (xs : List X)
    → list_any (λ x. test x && also x) xs ≡ list_any also (filter test xs)
any_kept test also [] = refl
any_kept {X} test also (x ∷ xs) = from (test x) (any_kept test also xs)
  where
    from : (t : Bool) → list_any (λ y. test y && also y) xs ≡ list_any also (filter test xs)
        → ((t && also x) || list_any (λ y. test y && also y) xs)
        ≡ list_any also (cond t (x ∷ filter test xs) (filter test xs))
    from true e = ap (λ r. also x || r) e
    from false e = e

pub at_most_one : {X : Type 0} (o : Option X) → length (as_list o) ≤ 1
at_most_one None = omega arith
at_most_one (Some x) = omega arith
