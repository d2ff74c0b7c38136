-- The zone read from generator records: its generators are allowed at the level, its ranges are ordered, and it has
-- no more generators than there are records.
use Rattle.std.proofs.Common.{◌≡◌, ◌≤◌, ◌<◌, ◌+◌, ◌^◌, ℕ, suc, Bool, true, false, cond, eqb, List, [], ◌∷◌, length}
use Rattle.std.proofs.Common.{map, filter, Option, Some, refl, sym, ◌∙◌, arith}
use Rattle.std.specs.Prelude.{is_some}
use Rattle.std.specs.List.{AllByRecursion, list_any, find}
use Rattle.std.specs.Option.{option_map}
use Rattle.std.specs.FinMap.{entries, len, from_entries, contains_key, len-insert, len-empty}
use Rattle.std.proofs.lemmas.Bool.Decides.{nat_tests}
use Rattle.std.proofs.lemmas.List.{length-map}
use Rattle.std.proofs.lemmas.List.Sums.{length-filter, count_by-le-length}
use Rattle.generators.specs.Gens.{operator_cmp, FitsEntry, FitGens}
use Rattle.generators.specs.Levels.{is_allowed}
use Rattle.generators.specs.Ranges.{IsRange}
use Rattle.generators.specs.declared.level.Level.{Level}
use Rattle.generators.proofs.Order.{operator_cmp-IsTotalOrder}
use Rattle.generators.proofs.EntryLaws.{All-insert, All-no_gens}
use Rattle.bank_parts.specs.Valid.{IsGenerator, AreGenerators}
use Rattle.hydra_records.specs.declared.zone.Generator.{Generator}
use Rattle.hydra_records.specs.Fits.{FitsGenerator}
use Rattle.bank_format.specs.Zones.{is_target, target_of, before_target, allowed_in, last_of_each, kept, is_range}
use Rattle.bank_format.specs.Zones.{repaired_range, repaired, gens_of, gens_read}

-- ---- a map of entries

abbrev pub Entries : Type 0
Entries = List (ℕ × ℕ)

All-from : (P : ℕ × ℕ → Type 0) (es : Entries) → AllByRecursion P es
    → AllByRecursion P (entries (from_entries {R = operator_cmp} es))
All-from P [] v = All-no_gens P
All-from P (e ∷ es) v = All-insert P (from_entries es) e.0 e.1 v.0 (All-from P es v.1)

one_more : (b : Bool) (n : ℕ) → cond b n (n + 1) ≤ n + 1
one_more true n = omega arith
one_more false n = omega arith

len-from : (es : Entries) → len (from_entries {R = operator_cmp} es) ≤ length es
len-from [] = omega (arith, len-empty operator_cmp ℕ)
len-from (e ∷ es) =
    let m = from_entries {R = operator_cmp} es in
    let rest = len-from es in
    omega (arith, rest, len-insert operator_cmp-IsTotalOrder m e.0 e.1, one_more (contains_key m e.0) (len m))

pub len-none : len (gens_of []) ≡ 0
len-none = len-empty operator_cmp ℕ

-- one if there is a target
abbrev pub one_for : Option ℕ → ℕ
one_for target = cond (is_some target) 1 0

abbrev entry_of : Generator → ℕ × ℕ
entry_of r = (r.operator, r.amount)

-- ---- the records that are kept

module _ (at : Level) where
  module _ (P : Generator → Type 0) where
    all_before : (rs : List Generator) → AllByRecursion P rs → AllByRecursion P (before_target at rs)
    all_before [] v = tt
    all_before (r ∷ rs) v =
        elim (is_target at r) as (λ b. AllByRecursion P (cond b [] (r ∷ before_target at rs)))
        [ true ↦ tt | false ↦ (v.0, all_before rs v.1) ]

    all_filtered : (test : Generator → Bool) (rs : List Generator) → AllByRecursion P rs
        → AllByRecursion P (filter test rs)
    all_filtered test [] v = tt
    all_filtered test (r ∷ rs) v =
        elim (test r) as (λ b. AllByRecursion P (cond b (r ∷ filter test rs) (filter test rs)))
        [ true ↦ (v.0, all_filtered test rs v.1) | false ↦ all_filtered test rs v.1 ]

    all_last : (rs : List Generator) → AllByRecursion P rs → AllByRecursion P (last_of_each rs)
    all_last [] v = tt
    all_last (r ∷ rs) v =
        elim (list_any (λ (x : Generator). eqb x.operator r.operator) rs) as
        (λ b. AllByRecursion P (cond b (last_of_each rs) (r ∷ last_of_each rs))) [
          | true ↦ all_last rs v.1
          | false ↦ (v.0, all_last rs v.1)
        ]

    all_kept : (rs : List Generator) → AllByRecursion P rs → AllByRecursion P (kept at rs)
    all_kept rs v =
        all_last (allowed_in at (before_target at rs))
        (all_filtered (λ (r : Generator). is_allowed at r.operator) (before_target at rs) (all_before rs v))

  -- each kept operator is allowed
  abbrev IsAllowed : Generator → Type 0
  IsAllowed r = is_allowed at r.operator ≡ true

  filtered_allowed : (rs : List Generator) → AllByRecursion IsAllowed (allowed_in at rs)
  filtered_allowed [] = tt
  filtered_allowed (r ∷ rs) =
      (elim (is_allowed at r.operator) as (λ b. is_allowed at r.operator ≡ b
      → AllByRecursion IsAllowed (cond b (r ∷ allowed_in at rs) (allowed_in at rs))) [
        | true ↦ λ e. (e, filtered_allowed rs)
        | false ↦ λ e. filtered_allowed rs
      ]) refl

  kept_allowed : (rs : List Generator) → AllByRecursion IsAllowed (kept at rs)
  kept_allowed rs = all_last IsAllowed (allowed_in at (before_target at rs)) (filtered_allowed (before_target at rs))

  -- ---- repaired ranges

  repaired_is : (r : Generator) → IsAllowed r → IsGenerator at (entry_of (repaired r))
  repaired_is r a =
      (elim (is_range r) as (λ b. is_range r ≡ b → IsGenerator at
      (entry_of (cond b (record { operator = r.operator; amount = repaired_range r.amount }) r))) [
        | true ↦ λ e. record { allowed = a; range = λ t. range_in_order r.amount }
        | false ↦ λ e. record { allowed = a; range = λ t. absurd (true_not_false (sym t ∙ e)) }
      ]) refl
    where
      true_not_false : true ≡ false → ⊥
      true_not_false e = cc

      range_in_order : (w : ℕ) → IsRange (repaired_range w)
      range_in_order w = Prim.grind (arith, nat_tests)

  all_repaired : (rs : List Generator) → AllByRecursion IsAllowed rs
      → AllByRecursion (IsGenerator at) (map entry_of (map repaired rs))
  all_repaired [] v = tt
  all_repaired (r ∷ rs) v = (repaired_is r v.0, all_repaired rs v.1)

  pub gens_valid : (rs : List Generator) → AreGenerators at (gens_read at rs)
  gens_valid rs =
      All-from (IsGenerator at) (map entry_of (map repaired (kept at rs))) (all_repaired (kept at rs) (kept_allowed rs))

  -- ---- numbers in range

  repaired_fits : (r : Generator) → FitsGenerator r → FitsEntry (entry_of (repaired r))
  repaired_fits r f =
      elim (is_range r) as
      (λ b. FitsEntry (entry_of (cond b (record { operator = r.operator; amount = repaired_range r.amount }) r))) [
        | true ↦ (f.operator, small r.amount)
        | false ↦ (f.operator, f.amount)
      ]
    where
      small : (w : ℕ) → repaired_range w < 2 ^ 16
      small w = Prim.grind (arith, nat_tests)

  all_fit : (rs : List Generator) → AllByRecursion FitsGenerator rs
      → AllByRecursion FitsEntry (map entry_of (map repaired rs))
  all_fit [] v = tt
  all_fit (r ∷ rs) v = (repaired_fits r v.0, all_fit rs v.1)

  pub gens_fit : (rs : List Generator) → AllByRecursion FitsGenerator rs → FitGens (gens_read at rs)
  gens_fit rs v =
      All-from FitsEntry (map entry_of (map repaired (kept at rs)))
      (all_fit (kept at rs) (all_kept FitsGenerator rs v))

  -- ---- how many there are

  -- the records before a target, and the target
  length-before : (rs : List Generator) → length (before_target at rs) + one_for (target_of at rs) ≤ length rs
  length-before [] = omega arith
  length-before (r ∷ rs) =
      let rest = length-before rs in
      elim (is_target at r) as
      (λ b.
      length (cond b [] (r ∷ before_target at rs))
      + one_for (option_map (λ (x : Generator). x.amount) (cond b (Some r) (find (is_target at) rs)))
      ≤ suc (length rs)) [
        | true ↦ omega arith
        | false ↦ omega (arith, rest)
      ]

  length-filtered : (test : Generator → Bool) (rs : List Generator) → length (filter test rs) ≤ length rs
  length-filtered test rs = omega (arith, length-filter test rs, count_by-le-length test rs)

  length-last : (rs : List Generator) → length (last_of_each rs) ≤ length rs
  length-last [] = omega arith
  length-last (r ∷ rs) =
      let rest = length-last rs in
      elim (list_any (λ (x : Generator). eqb x.operator r.operator) rs) as
      (λ b. length (cond b (last_of_each rs) (r ∷ last_of_each rs)) ≤ suc (length rs)) [
        | true ↦ omega (arith, rest)
        | false ↦ omega (arith, rest)
      ]

  -- the generators that are read, and the target
  pub len-gens_read : (rs : List Generator) → len (gens_read at rs) + one_for (target_of at rs) ≤ length rs
  len-gens_read rs =
      let before = before_target at rs in
      let records = map repaired (kept at rs) in
      omega (
        arith,
        len-from (map entry_of records),
        length-map records entry_of,
        length-map (kept at rs) repaired,
        length-last (allowed_in at before),
        length-filtered (λ (r : Generator). is_allowed at r.operator) before,
        length-before rs,
      )
