-- A zone as generator records and modulators: writing and reading it.
use Rattle.std.specs.Prelude.{◌+◌, ◌-◌, ◌*◌, ◌/◌, ◌%◌, ◌==◌, ◌&&◌, ℕ, List, [], ◌∷◌, ◌++◌, length, map, filter}
use Rattle.std.specs.Prelude.{filter_map, count_by, sum_by, min, Option, Bool, is_some, not, nat_le, if◌then◌else◌}
use Rattle.std.specs.List.{list_any, find}
use Rattle.std.specs.Option.{option_map}
use Rattle.std.specs.FinMap.{entries, len, from_entries}
use Rattle.generators.specs.Gens.{Gens}
use Rattle.generators.specs.Levels.{target_operator, is_allowed}
use Rattle.generators.specs.Ranges.{is_range_operator}
use Rattle.generators.specs.declared.level.Level.{Level}
use Rattle.modulators.specs.declared.modulator.Modulator.{Modulator}
use Rattle.bank_parts.specs.declared.parts.GlobalZone.{GlobalZone}
use Rattle.bank_parts.specs.declared.parts.Zone.{Zone}
use Rattle.hydra_records.specs.declared.zone.Generator.{Generator}

-- the generators and modulators of a bag
pub record Bagged : Type 0 where
  pub gens : List Generator
  pub mods : List Modulator

-- ---- written

abbrev pub generator : ℕ → ℕ → Generator
generator op w = record { operator = op; amount = w }

-- in canonical order, the order of the map
abbrev pub gens_written : Gens → List Generator
gens_written gs = map (λ e. generator e.0 e.1) (entries gs)

abbrev pub zone_written : Level → Zone → Bagged
zone_written at z = record { gens = gens_written z.gens ++ generator (target_operator at) z.target ∷ []; mods = z.mods }

-- a global zone without generators and modulators has no bag
abbrev pub global_written : GlobalZone → List Bagged
global_written g =
    if len g.gens + length g.mods == 0 then [] else record { gens = gens_written g.gens; mods = g.mods } ∷ []

-- the bags of a preset or an instrument: that of its global zone first, then those of its zones in order
unfoldable pub bags_written : Level → GlobalZone → List Zone → List Bagged
bags_written at g zs = global_written g ++ map (zone_written at) zs

-- ---- read

abbrev pub is_target : Level → Generator → Bool
is_target at r = r.operator == target_operator at

-- the amount of the first target record
abbrev pub target_of : Level → List Generator → Option ℕ
target_of at rs = option_map (λ (r : Generator). r.amount) (find (is_target at) rs)

-- the records before the first target record
abbrev pub before_target : Level → List Generator → List Generator
before_target at [] = []
before_target at (r ∷ rs) = if is_target at r then [] else r ∷ before_target at rs

-- those whose operator is allowed at the level
abbrev pub allowed_in : Level → List Generator → List Generator
allowed_in at rs = filter (λ (r : Generator). is_allowed at r.operator) rs

-- for each operator its last record
abbrev pub last_of_each : List Generator → List Generator
last_of_each [] = []
last_of_each (r ∷ rs) =
    if list_any (λ (x : Generator). x.operator == r.operator) rs then last_of_each rs else r ∷ last_of_each rs

-- the records that are kept as generators
abbrev pub kept : Level → List Generator → List Generator
kept at rs = last_of_each (allowed_in at (before_target at rs))

abbrev pub is_range : Generator → Bool
is_range r = is_range_operator r.operator

-- an end above 127 becomes 127
abbrev pub clamped_end : ℕ → ℕ
clamped_end e = min e 127

-- ends in the wrong order are exchanged
abbrev pub range_in_order : ℕ → ℕ → ℕ
range_in_order low high = if nat_le low high then low + 256 * high else high + 256 * low

abbrev pub repaired_range : ℕ → ℕ
repaired_range w = range_in_order (clamped_end (w % 256)) (clamped_end (w / 256))

abbrev pub repaired : Generator → Generator
repaired r = if is_range r then record { operator = r.operator; amount = repaired_range r.amount } else r

abbrev pub gens_of : List Generator → Gens
gens_of rs = from_entries (map (λ (r : Generator). (r.operator, r.amount)) rs)

abbrev pub gens_read : Level → List Generator → Gens
gens_read at rs = gens_of (map repaired (kept at rs))

abbrev pub zone_of : Level → Bagged → ℕ → Zone
zone_of at r t = record { target = t; gens = gens_read at r.gens; mods = r.mods }

-- a bag without a target is not a zone
abbrev pub zone_read : Level → Bagged → Option Zone
zone_read at r = option_map (zone_of at r) (target_of at r.gens)

-- the zones in the bags of a header
unfoldable pub zones_read : Level → List Bagged → List Zone
zones_read at bags = filter_map (zone_read at) bags

abbrev pub no_global : GlobalZone
no_global = record { gens = gens_of []; mods = [] }

abbrev pub has_target : Level → Bagged → Bool
has_target at r = is_some (target_of at r.gens)

-- the first bag is the global zone, if it has no target
unfoldable pub global_read : Level → List Bagged → GlobalZone
global_read at [] = no_global
global_read at (r ∷ bags) = if has_target at r then no_global else record { gens = gens_read at r.gens; mods = r.mods }

-- ---- counted

-- the first bag, and the later ones with a target
unfoldable pub counted_bags : Level → List Bagged → List Bagged
counted_bags at [] = []
counted_bags at (r ∷ bags) = r ∷ filter (has_target at) bags

-- the number of later bags without a target
unfoldable pub ignored : Level → List Bagged → ℕ
ignored at [] = 0
ignored at (r ∷ bags) = count_by (λ x. not (has_target at x)) bags

-- the number of records that are neither kept nor the target
abbrev pub dropped : Level → List Generator → ℕ
dropped at rs = length rs - (length (kept at rs) + (if is_some (target_of at rs) then 1 else 0))

-- a kept range that must be repaired
abbrev pub needs_repair : Generator → Bool
needs_repair r = is_range r && not (repaired_range r.amount == r.amount)

unfoldable pub gens_dropped : Level → List Bagged → ℕ
gens_dropped at bags = sum_by (λ (r : Bagged). dropped at r.gens) (counted_bags at bags)

unfoldable pub repaired_range_count : Level → List Bagged → ℕ
repaired_range_count at bags = sum_by (λ (r : Bagged). count_by needs_repair (kept at r.gens)) (counted_bags at bags)
