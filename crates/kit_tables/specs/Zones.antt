-- What a kit says of a zone.
use Rattle.std.specs.Prelude.{None}
use Rattle.generators.specs.declared.range.Range.{Range}
use Rattle.kit_tables.specs.declared.zone.KitZone.{KitZone}

-- all keys, or all velocities
abbrev pub all : Range
all = record { low = 0; high = 127 }

-- all keys and velocities, and nothing else
abbrev pub whole : KitZone
whole = record { keys = all; velocities = all; root = None; pan = None; class = None }
