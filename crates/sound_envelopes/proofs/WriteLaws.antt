-- Lists written one element or one piece at a time.
use Rattle.std.proofs.Common.{◌≡◌, ◌≢◌, ℕ, ◌+◌, ◌-◌, ◌<◌, ◌≤◌, List, ◌++◌, length, get_or, set, take, drop, inl, inr}
use Rattle.std.proofs.Common.{subst, sym, ◌∙◌, refl, arith, get_or-set_other, get_or-set_same}
use Rattle.std.proofs.lemmas.Bool.{cases_lt}
use Rattle.std.proofs.lemmas.Grind.{common_steps}

module _ {A : Type 0} (d : A) where
  -- a property of each element before i holds after element i is written
  pub below_set : (P : ℕ → A → Type 0) (xs : List A) (i : ℕ) (x : A) → i < length xs
      → ((k : ℕ) → k < i → P k (get_or xs k d)) → P i x
      → (k : ℕ) → k < i + 1 → P k (get_or (set xs i x) k d)
  below_set P xs i x long before here k h =
      elim (cases_lt k i) [
        | inl lt ↦ let ne : k ≢ i = omega arith in
            let o : get_or (set xs i x) k d ≡ get_or xs k d = (rw get_or-set_other refl) in
            subst (P k) (sym o) (before k lt)
        | inr ge ↦ let e : i ≡ k = omega arith in
            let o : get_or (set xs i x) i d ≡ x = (rw get_or-set_same refl) in
            subst (λ n. P n (get_or (set xs i x) n d)) e (subst (P i) (sym o) here)
      ]

  -- the elements after it stay the same
  pub after_set : (xs ys : List A) (i : ℕ) (x : A) → ((k : ℕ) → i ≤ k → get_or xs k d ≡ get_or ys k d)
      → (k : ℕ) → i + 1 ≤ k → get_or (set xs i x) k d ≡ get_or ys k d
  after_set xs ys i x after k h =
      let ne : k ≢ i = omega arith in
      let o : get_or (set xs i x) k d ≡ get_or xs k d = (rw get_or-set_other refl) in o ∙ after k (omega arith)

  -- a property of each element before a piece, and of each in the piece
  pub below_piece : (P : ℕ → A → Type 0) (xs new : List A) (at n : ℕ) → at + n ≤ length xs → length new ≡ n
      → ((k : ℕ) → k < at → P k (get_or xs k d)) → ((k : ℕ) → k < n → P (at + k) (get_or new k d))
      → (k : ℕ) → k < at + n → P k (get_or (take at xs ++ (new ++ drop (at + n - at) (drop at xs))) k d)
  below_piece P xs new at n long len before here k h =
      elim (cases_lt k at) [
        | inl lt ↦ let o : get_or (take at xs ++ (new ++ drop (at + n - at) (drop at xs))) k d ≡ get_or xs k d =
            grind (arith, common_steps) in
            subst (P k) (sym o) (before k lt)
        | inr ge ↦ let o : get_or (take at xs ++ (new ++ drop (at + n - at) (drop at xs))) k d
            ≡ get_or new (k - at) d =
            grind (arith, common_steps) in
            let e : at + (k - at) ≡ k = omega arith in
            subst (P k) (sym o) (subst (λ m. P m (get_or new (k - at) d)) e (here (k - at) (omega arith)))
      ]

  -- the elements after a piece stay the same
  pub after_piece : (xs ys new : List A) (at n : ℕ) → at + n ≤ length xs → length new ≡ n
      → ((k : ℕ) → at ≤ k → get_or xs k d ≡ get_or ys k d)
      → (k : ℕ) → at + n ≤ k → get_or (take at xs ++ (new ++ drop (at + n - at) (drop at xs))) k d ≡ get_or ys k d
  after_piece xs ys new at n long len after k h =
      let o : get_or (take at xs ++ (new ++ drop (at + n - at) (drop at xs))) k d ≡ get_or xs k d =
      grind (arith, common_steps) in
      o ∙ after k (omega arith)

  -- an element of a piece
  pub in_piece : (xs : List A) (at n k : ℕ) → at + n ≤ length xs → k < n
      → get_or (take (at + n - at) (drop at xs)) k d ≡ get_or xs (at + k) d
  in_piece xs at n k long h = grind (arith, common_steps)

  -- a property of each element before a piece, and of the first ones in the piece
  pub below_prefix : (P : ℕ → A → Type 0) (xs new : List A) (at m n : ℕ) → at + m ≤ length xs → length new ≡ m → n ≤ m
      → ((k : ℕ) → k < at → P k (get_or xs k d)) → ((k : ℕ) → k < n → P (at + k) (get_or new k d))
      → (k : ℕ) → k < at + n → P k (get_or (take at xs ++ (new ++ drop m (drop at xs))) k d)
  below_prefix P xs new at m n long len part before here k h =
      elim (cases_lt k at) [
        | inl lt ↦
            let o : get_or (take at xs ++ (new ++ drop m (drop at xs))) k d ≡ get_or xs k d =
            grind (arith, common_steps) in
            subst (P k) (sym o) (before k lt)
        | inr ge ↦
            let o : get_or (take at xs ++ (new ++ drop m (drop at xs))) k d ≡ get_or new (k - at) d =
            grind (arith, common_steps) in
            let e : at + (k - at) ≡ k = omega arith in
            subst (P k) (sym o) (subst (λ m. P m (get_or new (k - at) d)) e (here (k - at) (omega arith)))
      ]
