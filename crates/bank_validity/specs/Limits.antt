-- How long the lists of a bank are in a file, and the first limit that it breaks.
use Rattle.std.specs.Prelude.{ℕ, ◌+◌, ◌||◌, nat_lt, if◌then◌else◌, Option, Some, None, List, length, codes}
use Rattle.sf_base.specs.declared.limits.TheConstants.{PRESETS, INSTRUMENTS, SAMPLES, ZONES, GENERATORS, MODULATORS}
use Rattle.sf_base.specs.declared.limits.TheConstants.{POINTS, ZERO_POINTS}
use Rattle.generators.specs.declared.level.Level.{Level}
use Rattle.generators.specs.declared.level.Level.TheVariants as level
use Rattle.bank_parts.specs.declared.counting.Records.{Records}
use Rattle.bank_validity.specs.declared.totals.LevelTotals.{LevelTotals}
use Rattle.bank_validity.specs.declared.totals.Totals.{Totals}
use Rattle.bank_validity.specs.declared.limits.Limit.{Limit}
use Rattle.bank_validity.specs.declared.limits.Limit.TheVariants.{Presets, Instruments, Samples, Zones, Generators}
use Rattle.bank_validity.specs.declared.limits.Limit.TheVariants.{Modulators, Points}
use Rattle.bank_parts.specs.declared.parts.ZoneOwner.{ZoneOwner}
use Rattle.bank_parts.specs.declared.parts.Parts.{Parts}
use Rattle.bank_parts.specs.Counts.{counted, all_counted, records_sum}
use Rattle.bank_parts.specs.Valid.{owner_total, zone_count, gen_count, mod_count, point_total}

-- the number of presets or of instruments, and of their records
abbrev pub level_totals : {H : Type 0} → List (ZoneOwner H) → LevelTotals
level_totals owners = record {
  count = length owners;
  records =
      record {
        zones =
            owner_total zone_count owners;
        gens = owner_total gen_count owners;
        mods = owner_total mod_count owners;
      };
}

-- the totals of a bank
unfoldable pub totals_of : Parts → Totals
totals_of b = record {
  presets = level_totals b.presets;
  instruments = level_totals b.instruments;
  samples = length b.samples;
  points = point_total b.samples;
}

-- the first limit that these totals break
unfoldable pub broken : Totals → Option Limit
broken t =
    let presets = t.presets.records in
    let instruments = t.instruments.records in
    if nat_lt PRESETS t.presets.count then Some Presets
    else if nat_lt INSTRUMENTS t.instruments.count then Some Instruments
    else if nat_lt SAMPLES t.samples then Some Samples
    else if nat_lt ZONES presets.zones || nat_lt ZONES instruments.zones then Some Zones
    else if nat_lt GENERATORS presets.gens || nat_lt GENERATORS instruments.gens then Some Generators
    else if nat_lt MODULATORS presets.mods || nat_lt MODULATORS instruments.mods then Some Modulators
    else if nat_lt POINTS t.points then Some Points
    else None

-- the first limit that the bank breaks
abbrev pub broken_limit : Parts → Option Limit
broken_limit b = broken (totals_of b)

-- the totals after a sample with these points is added
abbrev pub with_sample : Totals → ℕ → Totals
with_sample t points = record t { samples = t.samples + 1; points = t.points + (points + ZERO_POINTS) }

-- ---- the totals of a level

-- the totals of a level
abbrev pub totals_at : Level → Totals → LevelTotals
totals_at level.Preset t = t.presets
totals_at level.Inst t = t.instruments

-- the totals of the level are changed by f
abbrev pub level_changed : Level → (LevelTotals → LevelTotals) → Totals → Totals
level_changed level.Preset f t = record t { presets = f t.presets }
level_changed level.Inst f t = record t { instruments = f t.instruments }

-- the records r added
abbrev pub plus_records : Records → LevelTotals → LevelTotals
plus_records r l = record l { records = records_sum l.records r }

-- a preset or an instrument with the records r added
abbrev pub plus_owner : Records → LevelTotals → LevelTotals
plus_owner r l = record { count = l.count + 1; records = records_sum l.records r }

-- each number saturated at 2 ^ 64 - 1
abbrev pub level_counted : LevelTotals → LevelTotals
level_counted l = record { count = counted l.count; records = all_counted l.records }

-- the totals after a preset or an instrument with the records r is added
abbrev pub with_owner : Level → Totals → Records → Totals
with_owner at t r = level_changed at (plus_owner r) t

-- the same, saturated
abbrev pub with_owner_counted : Level → Totals → Records → Totals
with_owner_counted at t r = level_changed at (λ l. level_counted (plus_owner r l)) t

-- the totals after the records r are added to a preset or an instrument
abbrev pub with_records : Level → Totals → Records → Totals
with_records at t r = level_changed at (plus_records r) t

-- the same, each number of records saturated at 2 ^ 64 - 1
abbrev pub with_records_counted : Level → Totals → Records → Totals
with_records_counted at t r =
    level_changed at (λ (l : LevelTotals). record l { records = all_counted (records_sum l.records r) }) t

-- the name of the limit in a fault line
abbrev pub word_of : Limit → List ℕ
word_of Presets = codes "presets"
word_of Instruments = codes "instruments"
word_of Samples = codes "samples"
word_of Zones = codes "zones"
word_of Generators = codes "generators"
word_of Modulators = codes "modulators"
word_of Points = codes "points"
