-- Laws of maps: settings and clearings one after another.
use Rattle.std.proofs.Common.{◌≡◌, ◌≢◌, ◌+◌, ◌-◌, ℕ, Bool, true, false, cond, Option, Some, None, IsSome, true≢false}
use Rattle.std.proofs.Common.{refl, sym, ap, ◌∙◌, inl, inr, arith}
use Rattle.std.specs.Prelude.{is_some}
use Rattle.std.specs.FinMap.{get, insert, remove, len, get-insert, get-remove, same_map, get-empty, empty_of_len}
use Rattle.std.specs.FinMap.{len-insert, len-remove}
use Rattle.std.proofs.lemmas.Bool.{cases_order}
use Rattle.generators.specs.Gens.{operator_cmp, Gens}
use Rattle.generators.proofs.Order.{operator_cmp-IsTotalOrder, operator_cmp-IsAntisymmetric, tied, tied_is_same, untied}

-- ---- look-ups

pub get-insert_any : (m : Gens) (op w q : ℕ) → get (insert m op w) q ≡ cond (tied q op) (Some w) (get m q)
get-insert_any m op w q = get-insert operator_cmp-IsTotalOrder m op w q

pub get-remove_any : (m : Gens) (op q : ℕ) → get (remove m op) q ≡ cond (tied q op) None (get m q)
get-remove_any m op q = get-remove operator_cmp-IsTotalOrder m op q

-- ---- maps with the same amounts are equal
pub same_gens : (m n : Gens) → ((q : ℕ) → get m q ≡ get n q) → m ≡ n
same_gens m n h = same_map operator_cmp-IsTotalOrder operator_cmp-IsAntisymmetric m n h

-- The amount of an operator in m, looked up twice.
here : (q op : ℕ) (m : Gens) → cond (tied q op) (get m op) (get m q) ≡ get m q
here q op m = elim (tied q op) as (λ b. tied q op ≡ b → cond b (get m op) (get m q) ≡ get m q) [
  | true ↦ λ p. ap (get m) (sym (tied_is_same q op p))
  | false ↦ λ p. refl
] refl

asked_twice : {X : Type 0} (b : Bool) (x y z : X) → cond b x (cond b y z) ≡ cond b x z
asked_twice true x y z = refl
asked_twice false x y z = refl

-- A map that differs from m at most at op, and has the same amount there.
put_back : (m n : Gens) (op : ℕ) → ((q : ℕ) → get n q ≡ cond (tied q op) (get m op) (get m q)) → n ≡ m
put_back m n op h = same_gens n m (λ q. h q ∙ here q op m)

-- ---- the laws of undo

pub insert-insert_back : (m : Gens) (op was w : ℕ) → get m op ≡ Some was → insert (insert m op w) op was ≡ m
insert-insert_back m op was w e =
    put_back m (insert (insert m op w) op was) op (λ q.
    get-insert_any (insert m op w) op was q ∙ ap (cond (tied q op) (Some was)) (get-insert_any m op w q)
    ∙ asked_twice (tied q op) (Some was) (Some w) (get m q) ∙ ap (λ o. cond (tied q op) o (get m q)) (sym e))

pub remove-insert : (m : Gens) (op w : ℕ) → get m op ≡ None → remove (insert m op w) op ≡ m
remove-insert m op w e =
    put_back m (remove (insert m op w) op) op (λ q.
    get-remove_any (insert m op w) op q ∙ ap (cond (tied q op) None) (get-insert_any m op w q)
    ∙ asked_twice (tied q op) None (Some w) (get m q) ∙ ap (λ o. cond (tied q op) o (get m q)) (sym e))

pub insert-remove : (m : Gens) (op was : ℕ) → get m op ≡ Some was → insert (remove m op) op was ≡ m
insert-remove m op was e =
    put_back m (insert (remove m op) op was) op (λ q.
    get-insert_any (remove m op) op was q ∙ ap (cond (tied q op) (Some was)) (get-remove_any m op q)
    ∙ asked_twice (tied q op) (Some was) None (get m q) ∙ ap (λ o. cond (tied q op) o (get m q)) (sym e))

pub remove-absent : (m : Gens) (op : ℕ) → get m op ≡ None → remove m op ≡ m
remove-absent m op e =
    put_back m (remove m op) op (λ q. get-remove_any m op q ∙ ap (λ o. cond (tied q op) o (get m q)) (sym e))

pub insert-present : (m : Gens) (op was : ℕ) → get m op ≡ Some was → insert m op was ≡ m
insert-present m op was e =
    put_back m (insert m op was) op (λ q. get-insert_any m op was q ∙ ap (λ o. cond (tied q op) o (get m q)) (sym e))

-- ---- the last of two settings counts, and settings of two operators commute

pub insert-insert : (m : Gens) (op v w : ℕ) → insert (insert m op v) op w ≡ insert m op w
insert-insert m op v w =
    same_gens (insert (insert m op v) op w) (insert m op w) (λ q.
    get-insert_any (insert m op v) op w q ∙ ap (cond (tied q op) (Some w)) (get-insert_any m op v q)
    ∙ asked_twice (tied q op) (Some w) (Some v) (get m q) ∙ sym (get-insert_any m op w q))

-- Two tests that are not both true.
exchanged : {X : Type 0} (a b : Bool) (x y z : X) → (a ≡ true → b ≡ false)
    → cond a x (cond b y z) ≡ cond b y (cond a x z)
exchanged true true x y z apart = absurd (true≢false (apart refl))
exchanged true false x y z apart = refl
exchanged false b x y z apart = refl

apart : (x y q : ℕ) → x ≢ y → tied q x ≡ true → tied q y ≡ false
apart x y q n e = untied q y (λ (s : q ≡ y). n (sym (tied_is_same q x e) ∙ s))

module _ (m : Gens) (a b : ℕ) (differ : a ≢ b) where
  pub insert-insert_other : (v w : ℕ) → insert (insert m a v) b w ≡ insert (insert m b w) a v
  insert-insert_other v w =
      same_gens (insert (insert m a v) b w) (insert (insert m b w) a v) (λ q.
      get-insert_any (insert m a v) b w q ∙ ap (cond (tied q b) (Some w)) (get-insert_any m a v q)
      ∙ sym (exchanged (tied q a) (tied q b) (Some v) (Some w) (get m q) (apart a b q differ))
      ∙ sym (get-insert_any (insert m b w) a v q ∙ ap (cond (tied q a) (Some v)) (get-insert_any m b w q)))

  pub remove-insert_other : (v : ℕ) → remove (insert m a v) b ≡ insert (remove m b) a v
  remove-insert_other v =
      same_gens (remove (insert m a v) b) (insert (remove m b) a v) (λ q.
      get-remove_any (insert m a v) b q ∙ ap (cond (tied q b) None) (get-insert_any m a v q)
      ∙ sym (exchanged (tied q a) (tied q b) (Some v) None (get m q) (apart a b q differ))
      ∙ sym (get-insert_any (remove m b) a v q ∙ ap (cond (tied q a) (Some v)) (get-remove_any m b q)))

both_none : (x y : Bool) (o : Option ℕ) → cond x None (cond y None o) ≡ cond y None (cond x None o)
both_none true true o = refl
both_none true false o = refl
both_none false y o = refl

pub remove-remove_other : (m : Gens) (a b : ℕ) → remove (remove m a) b ≡ remove (remove m b) a
remove-remove_other m a b =
    same_gens (remove (remove m a) b) (remove (remove m b) a) (λ q.
    get-remove_any (remove m a) b q ∙ ap (cond (tied q b) None) (get-remove_any m a q)
    ∙ both_none (tied q b) (tied q a) (get m q)
    ∙ sym (get-remove_any (remove m b) a q ∙ ap (cond (tied q a) None) (get-remove_any m b q)))

-- ---- lengths

pub len-insert_absent : (m : Gens) (op w : ℕ) → get m op ≡ None → len (insert m op w) ≡ len m + 1
len-insert_absent m op w e =
    len-insert operator_cmp-IsTotalOrder m op w ∙ ap (λ (o : Option ℕ). cond (is_some o) (len m) (len m + 1)) e

pub len-insert_present : (m : Gens) (op w : ℕ) → IsSome (get m op) → len (insert m op w) ≡ len m
len-insert_present m op w e = len-insert operator_cmp-IsTotalOrder m op w ∙ ap (λ b. cond b (len m) (len m + 1)) e

-- If something is set, there is an entry.
some_entry : (m : Gens) (op : ℕ) → IsSome (get m op) → len m ≡ 0 → ⊥
some_entry m op e none =
    true≢false (sym e ∙ ap is_some (ap (λ n. get n op) (empty_of_len m none) ∙ get-empty operator_cmp op))

pub len-remove_present : (m : Gens) (op : ℕ) → IsSome (get m op) → len (remove m op) + 1 ≡ len m
len-remove_present m op e =
    let less = len-remove operator_cmp-IsTotalOrder m op ∙ ap (λ b. cond b (len m - 1) (len m)) e in
    elim (cases_order (len m) 0) [
      | inl none ↦ absurd (some_entry m op e none)
      | inr (inl below) ↦ absurd (omega arith)
      | inr (inr above) ↦ omega arith
    ]
