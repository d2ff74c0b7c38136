-- Reading the written records of a zone returns the zone, and counts nothing.
use Rattle.std.proofs.Common.{◌≡◌, ℕ, true, false, cond, not, ◌==◌, ◌&&◌, eqb, List, [], ◌∷◌, ◌++◌, length, map}
use Rattle.std.proofs.Common.{Option, Some, None, refl, ap, ◌∙◌, arith, inl, inr, is_some}
use Rattle.std.specs.Prelude.{count_by, IsTrue}
use Rattle.std.specs.List.{AllByRecursion, list_any}
use Rattle.std.specs.Ordering.{is_lt}
use Rattle.std.specs.FinMap.{entries, from_entries, is_sorted}
use Rattle.std.specs.FinMap.Entries.{below_all}
use Rattle.std.proofs.lemmas.Bool.{cases_eq, eq-eqb, ne_eqb}
use Rattle.std.proofs.lemmas.Bool.Decides.{nat_tests}
use Rattle.std.proofs.lemmas.List.{length-append}
use Rattle.generators.specs.Gens.{operator_cmp, Gens}
use Rattle.generators.specs.Levels.{is_allowed, target_operator}
use Rattle.generators.specs.Ranges.{IsRange}
use Rattle.generators.specs.declared.level.Level.{Level}
use Rattle.generators.proofs.Entries.{both_true}
use Rattle.generators.proofs.EntryLaws.{from_entries-entries}
use Rattle.generators.proofs.LevelLaws.{allowed-≢-target}
use Rattle.generators.proofs.Maps.{entries_rise}
use Rattle.modulators.specs.declared.modulator.Modulator.{Modulator}
use Rattle.bank_parts.specs.Valid.{IsGenerator, AreGenerators, IsZone}
use Rattle.bank_parts.specs.declared.parts.Zone.{Zone}
use Rattle.hydra_records.specs.declared.zone.Generator.{Generator}
use Rattle.bank_format.specs.Zones.{generator, gens_written, zone_written, target_of, before_target, allowed_in}
use Rattle.bank_format.specs.Zones.{last_of_each, kept, repaired, needs_repair, is_range, repaired_range, gens_of}
use Rattle.bank_format.specs.Zones.{gens_read, zone_read, has_target, dropped}
use Rattle.bank_format.proofs.CountLaws.{one_if, count-none}

abbrev pub Entries : Type 0
Entries = List (ℕ × ℕ)

-- the records of entries
abbrev pub generator_records : Entries → List Generator
generator_records es = map (λ e. generator e.0 e.1) es

-- ---- no allowed operator is a target operator

module _ (at : Level) where
  no_target : (op : ℕ) → is_allowed at op ≡ true → eqb op (target_operator at) ≡ false
  no_target op h = ne_eqb op (target_operator at) (allowed-≢-target at at op h)

  target_self : eqb (target_operator at) (target_operator at) ≡ true
  target_self = eq-eqb _ _ refl

  -- the records before the target, and the target itself
  before_target-again : (es : Entries) (t : ℕ) → AllByRecursion (IsGenerator at) es
      → before_target at (generator_records es ++ generator (target_operator at) t ∷ []) ≡ generator_records es
  before_target-again [] t v = rw target_self refl
  before_target-again (e ∷ es) t v =
      rw (no_target e.0 v.0.allowed)
      (ap (λ (rs : List Generator). generator e.0 e.1 ∷ rs) (before_target-again es t v.1))

  target_of-again : (es : Entries) (t : ℕ) → AllByRecursion (IsGenerator at) es
      → target_of at (generator_records es ++ generator (target_operator at) t ∷ []) ≡ Some t
  target_of-again [] t v = rw target_self refl
  target_of-again (e ∷ es) t v = rw (no_target e.0 v.0.allowed) (target_of-again es t v.1)

  -- the same for a global zone, which has no target
  before_target-none : (es : Entries) → AllByRecursion (IsGenerator at) es → before_target at (generator_records es) ≡ generator_records es
  before_target-none [] v = refl
  before_target-none (e ∷ es) v =
      rw (no_target e.0 v.0.allowed)
      (ap (λ (rs : List Generator). generator e.0 e.1 ∷ rs) (before_target-none es v.1))

  pub target_of-none : (es : Entries) → AllByRecursion (IsGenerator at) es → target_of at (generator_records es) ≡ None
  target_of-none [] v = refl
  target_of-none (e ∷ es) v = rw (no_target e.0 v.0.allowed) (target_of-none es v.1)

  allowed_in-again : (es : Entries) → AllByRecursion (IsGenerator at) es → allowed_in at (generator_records es) ≡ generator_records es
  allowed_in-again [] v = refl
  allowed_in-again (e ∷ es) v =
      rw v.0.allowed (ap (λ (rs : List Generator). generator e.0 e.1 ∷ rs) (allowed_in-again es v.1))

-- ---- in canonical order each operator occurs once

less_other : (op x : ℕ) → IsTrue (is_lt (operator_cmp op x)) → eqb x op ≡ false
less_other op x h = elim (cases_eq x op) [
  | inl e ↦ absurd (grind (arith, nat_tests))
  | inr n ↦ ne_eqb x op n
]

none_same : (op : ℕ) (es : Entries) → IsTrue (below_all operator_cmp op es)
    → list_any (λ (x : Generator). x.operator == op) (generator_records es) ≡ false
none_same op [] h = refl
none_same op (e ∷ es) h =
    let both = both_true (is_lt (operator_cmp op e.0)) (below_all operator_cmp op es) h in
    rw (less_other op e.0 both.0) (none_same op es both.1)

last_of_each-again : (es : Entries) → IsTrue (is_sorted operator_cmp es) → last_of_each (generator_records es) ≡ generator_records es
last_of_each-again [] h = refl
last_of_each-again (e ∷ es) h =
    let both = both_true (below_all operator_cmp e.0 es) (is_sorted operator_cmp es) h in
    rw (none_same e.0 es both.0) (ap (λ (rs : List Generator). generator e.0 e.1 ∷ rs) (last_of_each-again es both.1))

-- ---- ordered ranges are unchanged

range-again : (w : ℕ) → IsRange w → repaired_range w ≡ w
range-again w r = grind (arith, nat_tests)

module _ (at : Level) where
  repaired-again : (e : ℕ × ℕ) → IsGenerator at e → repaired (generator e.0 e.1) ≡ generator e.0 e.1
  repaired-again e v = (elim (is_range (generator e.0 e.1)) as (λ b. is_range (generator e.0 e.1) ≡ b
      → cond b (generator e.0 (repaired_range e.1)) (generator e.0 e.1) ≡ generator e.0 e.1) [
        | true ↦ λ t. ap (generator e.0) (range-again e.1 (v.range t))
        | false ↦ λ t. refl
      ]) refl

  not_repaired : (e : ℕ × ℕ) → IsGenerator at e → needs_repair (generator e.0 e.1) ≡ false
  not_repaired e v = (elim (is_range (generator e.0 e.1)) as
      (λ b. is_range (generator e.0 e.1) ≡ b → (b && not (eqb (repaired_range e.1) e.1)) ≡ false) [
        | true ↦ λ t.
            (let same : eqb (repaired_range e.1) e.1 ≡ true = eq-eqb _ _ (range-again e.1 (v.range t)) in rw same refl)
        | false ↦ λ t. refl
      ]) refl

  map-repaired-again : (es : Entries) → AllByRecursion (IsGenerator at) es → map repaired (generator_records es) ≡ generator_records es
  map-repaired-again [] v = refl
  map-repaired-again (e ∷ es) v = λ i. repaired-again e v.0 i ∷ map-repaired-again es v.1 i

  none_repaired : (es : Entries) → AllByRecursion (IsGenerator at) es → count_by needs_repair (generator_records es) ≡ 0
  none_repaired [] v = refl
  none_repaired (e ∷ es) v = count-none needs_repair (generator e.0 e.1) (generator_records es) (not_repaired e v.0) (none_repaired es v.1)

-- ---- the map

pairs-again : (es : Entries) → map (λ (r : Generator). (r.operator, r.amount)) (generator_records es) ≡ es
pairs-again [] = refl
pairs-again (e ∷ es) = ap (λ (xs : Entries). e ∷ xs) (pairs-again es)

pub gens_of-again : (gs : Gens) → gens_of (generator_records (entries gs)) ≡ gs
gens_of-again gs = ap (from_entries {R = operator_cmp}) (pairs-again (entries gs)) ∙ from_entries-entries gs

-- ---- one bag

module _ (at : Level) where
  abbrev zone_gens : Gens → ℕ → List Generator
  zone_gens gs t = gens_written gs ++ generator (target_operator at) t ∷ []

  kept-zone : (gs : Gens) (t : ℕ) → AreGenerators at gs → kept at (zone_gens gs t) ≡ gens_written gs
  kept-zone gs t v =
      ap (λ (rs : List Generator). last_of_each (allowed_in at rs)) (before_target-again at (entries gs) t v)
      ∙ ap last_of_each (allowed_in-again at (entries gs) v)
      ∙ last_of_each-again (entries gs) (entries_rise gs)

  kept-global : (gs : Gens) → AreGenerators at gs → kept at (gens_written gs) ≡ gens_written gs
  kept-global gs v =
      ap (λ (rs : List Generator). last_of_each (allowed_in at rs)) (before_target-none at (entries gs) v)
      ∙ ap last_of_each (allowed_in-again at (entries gs) v)
      ∙ last_of_each-again (entries gs) (entries_rise gs)

  read_kept : (gs : Gens) → AreGenerators at gs → gens_of (map repaired (gens_written gs)) ≡ gs
  read_kept gs v = ap gens_of (map-repaired-again at (entries gs) v) ∙ gens_of-again gs

  gens_read-zone : (gs : Gens) (t : ℕ) → AreGenerators at gs → gens_read at (zone_gens gs t) ≡ gs
  gens_read-zone gs t v = ap (λ (rs : List Generator). gens_of (map repaired rs)) (kept-zone gs t v) ∙ read_kept gs v

  pub gens_read-global : (gs : Gens) → AreGenerators at gs → gens_read at (gens_written gs) ≡ gs
  gens_read-global gs v = ap (λ (rs : List Generator). gens_of (map repaired rs)) (kept-global gs v) ∙ read_kept gs v

  abbrev made_zone : ℕ → Gens → List Modulator → Zone
  made_zone t gs ms = record { target = t; gens = gs; mods = ms }

  pub zone_read-again : (n : ℕ) (x : Zone) → IsZone at n x → zone_read at (zone_written at x) ≡ Some x
  zone_read-again n x v =
      let t = target_of-again at (entries x.gens) x.target v.gens in
      rw t (ap (λ (gs : Gens). Some (made_zone x.target gs x.mods)) (gens_read-zone x.gens x.target v.gens))

  pub has_target-zone : (n : ℕ) (x : Zone) → IsZone at n x → has_target at (zone_written at x) ≡ true
  has_target-zone n x v = ap is_some (target_of-again at (entries x.gens) x.target v.gens)

  pub has_target-global : (gs : Gens) (ms : List Modulator) → AreGenerators at gs
      → has_target at (record { gens = gens_written gs; mods = ms }) ≡ false
  has_target-global gs ms v = ap is_some (target_of-none at (entries gs) v)

  pub dropped-zone : (gs : Gens) (t : ℕ) → AreGenerators at gs → dropped at (zone_gens gs t) ≡ 0
  dropped-zone gs t v =
      let k : length (kept at (zone_gens gs t)) ≡ length (gens_written gs) = ap length (kept-zone gs t v) in
      let some : one_if (is_some (target_of at (zone_gens gs t))) ≡ 1 =
      ap (λ (o : Option ℕ). one_if (is_some o)) (target_of-again at (entries gs) t v) in
      let whole = length-append (gens_written gs) (generator (target_operator at) t ∷ []) in
      omega (arith, k, some, whole)

  pub dropped-global : (gs : Gens) → AreGenerators at gs → dropped at (gens_written gs) ≡ 0
  dropped-global gs v =
      let k : length (kept at (gens_written gs)) ≡ length (gens_written gs) = ap length (kept-global gs v) in
      omega (arith, k)

  pub repaired-zone : (gs : Gens) (t : ℕ) → AreGenerators at gs → count_by needs_repair (kept at (zone_gens gs t)) ≡ 0
  repaired-zone gs t v =
      ap (λ (rs : List Generator). count_by needs_repair rs) (kept-zone gs t v) ∙ none_repaired at (entries gs) v

  pub repaired-global : (gs : Gens) → AreGenerators at gs → count_by needs_repair (kept at (gens_written gs)) ≡ 0
  repaired-global gs v =
      ap (λ (rs : List Generator). count_by needs_repair rs) (kept-global gs v) ∙ none_repaired at (entries gs) v
