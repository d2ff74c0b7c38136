-- The generator records that are kept, and the map of their operators.
use Rattle.std.proofs.Common.{◌≡◌, ◌≤◌, ◌+◌, ℕ, true, false, cond, eqb, List, [], ◌∷◌, length, map, is_some, Some}
use Rattle.std.proofs.Common.{refl, sym, ap, ◌∙◌, arith}
use Rattle.std.specs.List.{list_any, find}
use Rattle.std.specs.Option.{option_map}
use Rattle.std.specs.FinMap.{len, from_entries}
use Rattle.std.proofs.lemmas.List.{length-map}
use Rattle.std.proofs.lemmas.List.Sums.{length-filter, count_by-le-length}
use Rattle.generators.specs.Gens as map_of
use Rattle.generators.specs.Gens.{Gens, no_gens, set_in_order}
use Rattle.generators.specs.Levels.{is_allowed}
use Rattle.generators.specs.declared.level.Level.{Level}
use Rattle.generators.proofs.SettingLaws.{last_of_each_count, last_of_each_are_all}
use Rattle.hydra_records.specs.declared.zone.Generator.{Generator}
use Rattle.bank_format.specs.Zones.{is_target, target_of, before_target, allowed_in, last_of_each, kept, gens_of}
use Rattle.sf_reader.specs.Gens.{entry_of, entries_in, one_if}

-- ---- the last record, or entry, of each operator

is_listed_entry : (op : ℕ) (rs : List Generator)
    → list_any (λ (x : ℕ × ℕ). eqb x.0 op) (map entry_of rs) ≡ list_any (λ (x : Generator). eqb x.operator op) rs
is_listed_entry op [] = refl
is_listed_entry op (r ∷ rs) = rw (is_listed_entry op rs) refl

last_entries : (rs : List Generator) → map entry_of (last_of_each rs) ≡ map_of.last_of_each (map entry_of rs)
last_entries [] = refl
last_entries (r ∷ rs) =
    let rest = last_entries rs in
    rw (is_listed_entry r.operator rs) (
    elim (list_any (λ (x : Generator). eqb x.operator r.operator) rs) as
    (λ s.
    map entry_of (cond s (last_of_each rs) (r ∷ last_of_each rs))
    ≡ cond s (map_of.last_of_each (map entry_of rs)) (entry_of r ∷ map_of.last_of_each (map entry_of rs))) [
      | true ↦ rest
      | false ↦ ap (λ (es : List (ℕ × ℕ)). entry_of r ∷ es) rest
    ])

-- ---- the map after setting all entries

module _ (at : Level) (rs : List Generator) where
  pub set_kept : set_in_order no_gens (entries_in at rs) ≡ gens_of (kept at rs)
  set_kept =
      last_of_each_count (entries_in at rs)
      ∙ ap (λ (es : List (ℕ × ℕ)). from_entries {R = map_of.operator_cmp} es)
      (sym (last_entries (allowed_in at (before_target at rs))))

  pub len_kept : len (set_in_order no_gens (entries_in at rs)) ≡ length (kept at rs)
  len_kept =
      last_of_each_are_all (entries_in at rs) ∙ ap length (sym (last_entries (allowed_in at (before_target at rs))))
      ∙ length-map (kept at rs) entry_of

-- ---- the number of kept records

length-last_of_each : (rs : List Generator) → length (last_of_each rs) ≤ length rs
length-last_of_each [] = omega arith
length-last_of_each (r ∷ rs) =
    let rest = length-last_of_each rs in
    elim (list_any (λ (x : Generator). eqb x.operator r.operator) rs) as
    (λ s. length (cond s (last_of_each rs) (r ∷ last_of_each rs)) ≤ length (r ∷ rs)) [
      | true ↦ omega (arith, rest)
      | false ↦ omega (arith, rest)
    ]

length-before_target : (at : Level) (rs : List Generator)
    → length (before_target at rs) + one_if (is_some (target_of at rs)) ≤ length rs
length-before_target at [] = omega arith
length-before_target at (r ∷ rs) =
    let rest = length-before_target at rs in
    elim (is_target at r) as
    (λ t.
    length (cond t [] (r ∷ before_target at rs))
    + one_if
    (is_some (option_map (λ (x : Generator). x.amount) (cond t (Some r) (find (is_target at) rs))))
    ≤ length (r ∷ rs)) [
      | true ↦ omega arith
      | false ↦ omega (arith, rest)
    ]

pub length-kept : (at : Level) (rs : List Generator)
    → length (kept at rs) + one_if (is_some (target_of at rs)) ≤ length rs
length-kept at rs =
    let before = before_target at rs in
    let allowed : length (allowed_in at before) ≤ length before =
    rw (length-filter (λ (r : Generator). is_allowed at r.operator) before)
    (count_by-le-length (λ (r : Generator). is_allowed at r.operator) before) in
    omega (arith, length-last_of_each (allowed_in at before), allowed, length-before_target at rs)
