-- Entries that are set one after another.
use Rattle.std.proofs.Common.{◌≡◌, ℕ, Bool, true, false, cond, eqb, [], ◌∷◌, length, Option, Some, None, true≢false}
use Rattle.std.proofs.Common.{refl, sym, ap, ◌∙◌, arith}
use Rattle.std.specs.Prelude.{◌||◌, is_some}
use Rattle.std.specs.List.{list_any}
use Rattle.std.specs.FinMap.{get, insert, len, from_entries, find, get-from_entries, get-empty, len-empty}
use Rattle.std.proofs.lemmas.Bool.{eqb-true, eqb-false}
use Rattle.generators.specs.Gens.{operator_cmp, Gens, no_gens, set_in_order, last_of_each}
use Rattle.generators.specs.Laws.{LastOfEachCount, LastOfEachAreAll}
use Rattle.generators.proofs.Order.{operator_cmp-IsTotalOrder, tied, tied_same, tied_is_same, untied}
use Rattle.generators.proofs.Entries.{Entries}
use Rattle.generators.proofs.MapLaws.{same_gens, get-insert_any, len-insert_absent}

-- Whether an operator is among the entries.
abbrev has_op : ℕ → Entries → Bool
has_op op es = list_any (λ (x : ℕ × ℕ). eqb x.0 op) es

-- The first option, or else the second.
abbrev or_else : Option ℕ → Option ℕ → Option ℕ
or_else None b = b
or_else (Some w) b = Some w

tied_eqb : (x y : ℕ) → eqb x y ≡ tied y x
tied_eqb x y = elim (eqb x y) as (λ b. eqb x y ≡ b → b ≡ tied y x) [
  | true ↦ λ e. sym (ap (tied y) (eqb-true x y e) ∙ tied_same y)
  | false ↦ λ e. sym (untied y x (λ s. eqb-false x y e (sym s)))
] refl

or_else-some : (o a b : Option ℕ) → is_some o ≡ true → or_else o a ≡ or_else o b
or_else-some None a b e = absurd (true≢false (sym e))
or_else-some (Some w) a b e = refl

or_else-None : (o : Option ℕ) → or_else o None ≡ o
or_else-None None = refl
or_else-None (Some w) = refl

is_none : (o : Option ℕ) → is_some o ≡ false → o ≡ None
is_none None e = refl
is_none (Some w) e = absurd (true≢false e)

-- An operator is among the last entries if it is among the entries.
find-last_of_each : (op : ℕ) (es : Entries) → is_some (find operator_cmp op (last_of_each es)) ≡ has_op op es
find-last_of_each op [] = refl
find-last_of_each op (e ∷ es) =
    let lasts = last_of_each es in
    let rest = find-last_of_each op es in
    elim (has_op e.0 es) as
    (λ s.
    has_op e.0 es ≡ s
    → is_some (find operator_cmp op (cond s lasts (e ∷ lasts))) ≡ (eqb e.0 op || has_op op es)) [
      | true ↦ λ p. rest ∙ elim (eqb e.0 op) as (λ t. eqb e.0 op ≡ t → has_op op es ≡ (t || has_op op es)) [
        | true ↦ λ t. ap (λ x. has_op x es) (sym (eqb-true e.0 op t)) ∙ p
        | false ↦ λ t. refl
      ] refl
      | false ↦ λ p.
          rw (tied_eqb e.0 op)
          (elim (tied op e.0) as
          (λ t. is_some (cond t (Some e.1) (find operator_cmp op lasts)) ≡ (t || has_op op es))
          [ true ↦ refl | false ↦ rest ])
    ] refl

get-set_in_order : (m : Gens) (es : Entries) (q : ℕ)
    → get (set_in_order m es) q ≡ or_else (find operator_cmp q (last_of_each es)) (get m q)
get-set_in_order m [] q = refl
get-set_in_order m (e ∷ es) q =
    let lasts = last_of_each es in
    let found = find operator_cmp q lasts in
    let stood = find-last_of_each q es in
    get-set_in_order (insert m e.0 e.1) es q ∙ ap (or_else found) (get-insert_any m e.0 e.1 q)
    ∙ elim (has_op e.0 es) as
    (λ s.
    has_op e.0 es ≡ s
    → or_else found (cond (tied q e.0) (Some e.1) (get m q))
    ≡ or_else (find operator_cmp q (cond s lasts (e ∷ lasts))) (get m q)) [
      | true ↦ λ p.
          elim (tied q e.0) as
          (λ t. tied q e.0 ≡ t → or_else found (cond t (Some e.1) (get m q)) ≡ or_else found (get m q)) [
            | true ↦ λ t. or_else-some found (Some e.1) (get m q) (stood ∙ ap (λ x. has_op x es) (tied_is_same q e.0 t) ∙ p)
            | false ↦ λ t. refl
          ] refl
      | false ↦ λ p.
          elim (tied q e.0) as
          (λ t.
          tied q e.0 ≡ t
          → or_else found (cond t (Some e.1) (get m q)) ≡ or_else (cond t (Some e.1) found) (get m q)) [
            | true ↦ λ t.
                ap (λ o. or_else o (Some e.1)) (is_none found (stood ∙ ap (λ x. has_op x es) (tied_is_same q e.0 t) ∙ p))
            | false ↦ λ t. refl
          ] refl
    ] refl

pub last_of_each_count : LastOfEachCount
last_of_each_count es =
    same_gens (set_in_order no_gens es) (from_entries (last_of_each es)) (λ q.
    get-set_in_order no_gens es q ∙ ap (or_else (find operator_cmp q (last_of_each es))) (get-empty operator_cmp q)
    ∙ or_else-None (find operator_cmp q (last_of_each es))
    ∙ sym (get-from_entries operator_cmp-IsTotalOrder (last_of_each es) q))

-- After a last entry there is no entry of its operator.
len-from_last : (es : Entries) → len (from_entries {R = operator_cmp} (last_of_each es)) ≡ length (last_of_each es)
len-from_last [] = len-empty operator_cmp ℕ
len-from_last (e ∷ es) =
    let lasts = last_of_each es in
    elim (has_op e.0 es) as
    (λ s.
    has_op e.0 es ≡ s
    → len (from_entries {R = operator_cmp} (cond s lasts (e ∷ lasts)))
    ≡ length (cond s lasts (e ∷ lasts))) [
      | true ↦ λ p. len-from_last es
      | false ↦ λ p.
          let none : get (from_entries {R = operator_cmp} lasts) e.0 ≡ None =
          get-from_entries operator_cmp-IsTotalOrder lasts e.0
          ∙ is_none (find operator_cmp e.0 lasts) (find-last_of_each e.0 es ∙ p) in
          omega (arith, len-insert_absent (from_entries lasts) e.0 e.1 none, len-from_last es)
    ] refl

pub last_of_each_are_all : LastOfEachAreAll
last_of_each_are_all es = ap len (last_of_each_count es) ∙ len-from_last es
