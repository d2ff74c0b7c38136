-- Sorted entries: the entry at an index, and the effect of an edit there.
use Rattle.std.proofs.Common.{◌≡◌, ◌<◌, ◌≤◌, ℕ, zero, suc, Bool, true, false, cond, not, ◌&&◌, List, [], ◌∷◌, length}
use Rattle.std.proofs.Common.{get_or, set, Some, None, refl, sym, ap, subst, ◌∙◌, arith}
use Rattle.std.specs.Prelude.{IsTrue}
use Rattle.std.specs.List.{insert, remove}
use Rattle.std.specs.Ordering.{is_lt, is_eq, eq_by_cmp, ordering_reverse}
use Rattle.std.specs.declared.cmp.Ordering.{Ordering}
use Rattle.std.specs.declared.cmp.Ordering.TheVariants.{Less, Equal, Greater}
use Rattle.std.specs.Cmp.{IsTotalOrder, tied_itself}
use Rattle.std.specs.FinMap.{find, put, is_sorted}
use Rattle.std.specs.FinMap.Entries.{by_order, where_key, below_all}

abbrev pub Entries : Type 0
Entries = List (ℕ × ℕ)

-- The key of the entry at index i.
abbrev pub key_at : Entries → ℕ → ℕ
key_at es i = (get_or es i (0, 0)).0

pub both_true : (a b : Bool) → IsTrue (a && b) → IsTrue a × IsTrue b
both_true true b h = (refl, h)
both_true false b h = absurd (subst (λ (x : Bool). cond x ⊥ (Unit {0})) h tt)

pub is_less : (r : Ordering) → IsTrue (is_lt r) → r ≡ Less
is_less Less h = refl
is_less Equal h = cc
is_less Greater h = cc

module _ (R : ℕ → ℕ → Ordering) where
  abbrev IsRising : Entries → Type 0
  IsRising es = IsTrue (is_sorted R es)

  -- The entries after the first are sorted too, and above it.
  tail_rises : (e : ℕ × ℕ) (es : Entries) → IsRising (e ∷ es) → IsRising es
  tail_rises e es h = (both_true (below_all R e.0 es) (is_sorted R es) h).1

  below_at : (k : ℕ) (es : Entries) (i : ℕ) → IsTrue (below_all R k es) → i < length es → R k (key_at es i) ≡ Less
  below_at k [] i h l = absurd (omega arith)
  below_at k (e ∷ es) zero h l = is_less (R k e.0) (both_true (is_lt (R k e.0)) (below_all R k es) h).0
  below_at k (e ∷ es) (suc i) h l = below_at k es i (both_true (is_lt (R k e.0)) (below_all R k es) h).1 (omega arith)

  first_below : (e : ℕ × ℕ) (es : Entries) (i : ℕ) → IsRising (e ∷ es) → i < length es → R e.0 (key_at es i) ≡ Less
  first_below e es i h l = below_at e.0 es i (both_true (below_all R e.0 es) (is_sorted R es) h).0 l

-- ---- the entry at index i has the key
module _ (R : ℕ → ℕ → Ordering) (o : IsTotalOrder R) where
  -- A later key is after the first in order.
  later : (e : ℕ × ℕ) (es : Entries) (i k : ℕ) → IsRising R (e ∷ es) → i < length es → key_at es i ≡ k
      → R k e.0 ≡ Greater
  later e es i k h l s =
      o.antisymm k e.0 ∙ ap (λ x. ordering_reverse (R e.0 x)) (sym s)
      ∙ ap ordering_reverse (first_below R e es i h l)

  pub find_at : (es : Entries) (k i : ℕ) → IsRising R es → i < length es → key_at es i ≡ k
      → find R k es ≡ Some (get_or es i (0, 0)).1
  find_at [] k i h l s = absurd (omega arith)
  find_at (e ∷ es) k zero h l s = ap (λ r. cond (is_eq r) (Some e.1) (find R k es)) (ap (R k) s ∙ tied_itself o k)
  find_at (e ∷ es) k (suc i) h l s =
      let within : i < length es = omega arith in
      ap (λ r. cond (is_eq r) (Some e.1) (find R k es)) (later e es i k h within s)
      ∙ find_at es k i (tail_rises R e es h) within s

  pub put_at : (es : Entries) (k v i : ℕ) → IsRising R es → i < length es → key_at es i ≡ k
      → put R k v es ≡ set es i (k, v)
  put_at [] k v i h l s = absurd (omega arith)
  put_at (e ∷ es) k v zero h l s =
      ap (λ r. by_order r ((k, v) ∷ e ∷ es) ((e.0, v) ∷ es) (e ∷ put R k v es)) (ap (R k) s ∙ tied_itself o k)
      ∙ ap (λ x. (x, v) ∷ es) s
  put_at (e ∷ es) k v (suc i) h l s =
      let within : i < length es = omega arith in
      ap (λ r. by_order r ((k, v) ∷ e ∷ es) ((e.0, v) ∷ es) (e ∷ put R k v es)) (later e es i k h within s)
      ∙ ap (λ xs. e ∷ xs) (put_at es k v i (tail_rises R e es h) within s)

  -- No key ties with k, so each entry remains.
  without_none : (es : Entries) (k : ℕ) → ((j : ℕ) → j < length es → is_eq (R k (key_at es j)) ≡ false)
      → where_key R (λ x. not (eq_by_cmp R k x)) es ≡ es
  without_none [] k h = refl
  without_none (e ∷ es) k h =
      let rest = where_key R (λ x. not (eq_by_cmp R k x)) es in
      ap (λ b. cond (not b) (e ∷ rest) rest) (h 0 (omega arith))
      ∙ ap (λ xs. e ∷ xs) (without_none es k (λ j l. h (suc j) (omega arith)))

  pub remove_at : (es : Entries) (k i : ℕ) → IsRising R es → i < length es → key_at es i ≡ k
      → where_key R (λ x. not (eq_by_cmp R k x)) es ≡ remove es i
  remove_at [] k i h l s = absurd (omega arith)
  remove_at (e ∷ es) k zero h l s =
      let rest = where_key R (λ x. not (eq_by_cmp R k x)) es in
      ap (λ r. cond (not (is_eq r)) (e ∷ rest) rest) (ap (R k) s ∙ tied_itself o k)
      ∙ without_none es k (λ j l. ap (λ x. is_eq (R x (key_at es j))) (sym s) ∙ ap is_eq (first_below R e es j h l))
  remove_at (e ∷ es) k (suc i) h l s =
      let within : i < length es = omega arith in
      let rest = where_key R (λ x. not (eq_by_cmp R k x)) es in
      ap (λ r. cond (not (is_eq r)) (e ∷ rest) rest) (later e es i k h within s)
      ∙ ap (λ xs. e ∷ xs) (remove_at es k i (tail_rises R e es h) within s)

-- ---- the key would be inserted at index i
module _ (R : ℕ → ℕ → Ordering) (o : IsTotalOrder R) where
  turned : (x y : ℕ) (r : Ordering) → R x y ≡ r → R y x ≡ ordering_reverse r
  turned x y r e = o.antisymm y x ∙ ap ordering_reverse e

  pub find_gap : (es : Entries) (k i : ℕ) → ((j : ℕ) → j < i → R (key_at es j) k ≡ Less)
      → ((j : ℕ) → i ≤ j → j < length es → R (key_at es j) k ≡ Greater) → find R k es ≡ None
  find_gap [] k i before after = refl
  find_gap (e ∷ es) k zero before after =
      ap (λ r. cond (is_eq r) (Some e.1) (find R k es)) (turned e.0 k Greater (after 0 (omega arith) (omega arith)))
      ∙ find_gap es k zero (λ j l. absurd (omega arith)) (λ j l m. after (suc j) (omega arith) (omega arith))
  find_gap (e ∷ es) k (suc i) before after =
      ap (λ r. cond (is_eq r) (Some e.1) (find R k es)) (turned e.0 k Less (before 0 (omega arith)))
      ∙ find_gap es k i (λ j l. before (suc j) (omega arith)) (λ j l m. after (suc j) (omega arith) (omega arith))

  pub put_gap : (es : Entries) (k v i : ℕ) → i ≤ length es → ((j : ℕ) → j < i → R (key_at es j) k ≡ Less)
      → ((j : ℕ) → i ≤ j → j < length es → R (key_at es j) k ≡ Greater) → put R k v es ≡ insert es i (k, v)
  put_gap [] k v zero l before after = refl
  put_gap [] k v (suc i) l before after = absurd (omega arith)
  put_gap (e ∷ es) k v zero l before after =
      ap (λ r. by_order r ((k, v) ∷ e ∷ es) ((e.0, v) ∷ es) (e ∷ put R k v es))
      (turned e.0 k Greater (after 0 (omega arith) (omega arith)))
  put_gap (e ∷ es) k v (suc i) l before after =
      ap (λ r. by_order r ((k, v) ∷ e ∷ es) ((e.0, v) ∷ es) (e ∷ put R k v es))
      (turned e.0 k Less (before 0 (omega arith)))
      ∙ ap (λ xs. e ∷ xs)
      (put_gap es k v i (omega arith) (λ j l. before (suc j) (omega arith))
      (λ j l m. after (suc j) (omega arith) (omega arith)))

-- ---- the keys of any two entries
module _ (R : ℕ → ℕ → Ordering) where
  pub keys_rise : (es : Entries) → IsRising R es → (i j : ℕ) → i < j → j < length es
      → R (key_at es i) (key_at es j) ≡ Less
  keys_rise [] h i j l m = absurd (omega arith)
  keys_rise (e ∷ es) h i zero l m = absurd (omega arith)
  keys_rise (e ∷ es) h zero (suc j) l m = first_below R e es j h (omega arith)
  keys_rise (e ∷ es) h (suc i) (suc j) l m = keys_rise es (tail_rises R e es h) i j (omega arith) (omega arith)
