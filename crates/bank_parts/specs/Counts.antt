-- Numbers of records in a file.
use Rattle.std.specs.Prelude.{◌+◌, ◌-◌, ◌^◌, min, ℕ, List, length, sum_by}
use Rattle.std.specs.FinMap.{len}
use Rattle.bank_parts.specs.declared.counting.Records.{Records}
use Rattle.bank_parts.specs.declared.parts.GlobalZone.{GlobalZone}
use Rattle.bank_parts.specs.declared.parts.Zone.{Zone}
use Rattle.bank_parts.specs.declared.parts.ZoneOwner.{ZoneOwner}
use Rattle.bank_parts.specs.Valid.{global_count, zone_count, gen_count, mod_count}

-- the records of a zone; its target counts as a generator
abbrev pub records_of_zone : Zone → Records
records_of_zone zone = record { zones = 1; gens = len zone.gens + 1; mods = length zone.mods }

-- the records of a global zone
abbrev pub records_of_global : GlobalZone → Records
records_of_global global = record { zones = global_count global; gens = len global.gens; mods = length global.mods }

-- the records of a global zone with these zones
abbrev pub records_of : GlobalZone → List Zone → Records
records_of global zones =
    record { zones = zone_count global zones; gens = gen_count global zones; mods = mod_count global zones }

-- the records of a preset or an instrument
abbrev pub records_of_owner : {H : Type 0} → ZoneOwner H → Records
records_of_owner x = records_of x.global x.zones

-- the sum of the records of all members of a list
abbrev pub records_total : {X : Type 0} → (X → Records) → List X → Records
records_total count xs =
    record {
      zones =
          sum_by (λ x. (count x).zones) xs;
      gens =
          sum_by (λ x. (count x).gens) xs;
      mods = sum_by (λ x. (count x).mods) xs;
    }

-- the sum of two numbers of records
abbrev pub records_sum : Records → Records → Records
records_sum r s = record { zones = r.zones + s.zones; gens = r.gens + s.gens; mods = r.mods + s.mods }

-- a sum in saturating arithmetic of 64 bits
abbrev pub counted : ℕ → ℕ
counted n = min n (2 ^ 64 - 1)

-- each number saturated
abbrev pub all_counted : Records → Records
all_counted r = record { zones = counted r.zones; gens = counted r.gens; mods = counted r.mods }
