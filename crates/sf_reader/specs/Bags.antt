-- What is read from the bags of a preset or of an instrument.
use Rattle.std.specs.Prelude.{ℕ, List, ◌++◌, map}
use Rattle.generators.specs.Levels.{target_operator}
use Rattle.generators.specs.declared.level.Level.{Level}
use Rattle.flat_records.specs.Bags.{Bag}
use Rattle.bank_parts.specs.Bagged.{zone_bag, global_bags}
use Rattle.bank_format.specs.declared.fault.ReadFault.{ReadFault}
use Rattle.bank_format.specs.FaultChecks.{Check}
use Rattle.bank_format.specs.Zones.{Bagged, global_read, zones_read, ignored, gens_dropped, repaired_range_count}
use Rattle.bank_format.specs.ReadChecks.{target_check}
use Rattle.sf_reader.specs.declared.zones.ZoneCounts.{ZoneCounts}

abbrev pub counts_read : Level → List Bagged → ZoneCounts
counts_read at bags = record { zones = ignored at bags; gens = gens_dropped at bags; ranges = repaired_range_count at bags }

-- the check of each zone's target
abbrev pub checks_of_bags : Level → ℕ → ReadFault → List Bagged → List (Check ReadFault)
checks_of_bags at targets missing bags = map (target_check targets missing) (zones_read at bags)

-- ---- as bags of a bank

-- the bags of the zones
abbrev pub zone_bags : Level → List Bagged → List Bag
zone_bags at bags = map (zone_bag (target_operator at)) (zones_read at bags)

-- the bag of the global zone, if it is not empty, and those of the zones
abbrev pub own_bags : Level → List Bagged → List Bag
own_bags at bags = global_bags (global_read at bags) ++ zone_bags at bags
