-- The effective key or velocity range of a zone: its own, else that of its global zone, else 0 to 127. A range is an
-- amount with the low end in the low byte.
use Rattle.std.specs.Prelude.{ℕ, ◌+◌, ◌*◌, ◌/◌, ◌%◌, List, Option, slice_get, unwrap_or}
use Rattle.std.specs.Option.{option_map, option_and_then}
use Rattle.std.specs.FinMap as map
use Rattle.bank_parts.specs.declared.parts.GlobalZone.{GlobalZone}
use Rattle.bank_parts.specs.declared.parts.Zone.{Zone}
use Rattle.bank_parts.specs.declared.parts.ZoneOwner.{ZoneOwner}
use Rattle.bank_zone_ranges.specs.declared.axes.Axis.{Axis}
use Rattle.bank_zone_ranges.specs.declared.axes.Axis.TheVariants.{Key, Vel}

-- ---- amounts

abbrev pub low_end : ℕ → ℕ
low_end range = range % 256

abbrev pub high_end : ℕ → ℕ
high_end range = range / 256

abbrev pub range_from : ℕ → ℕ → ℕ
range_from low high = low + 256 * high

-- 0 to 127
abbrev pub whole_range : ℕ
whole_range = 32512

-- ---- of a zone

-- the generator that sets the range on an axis
abbrev pub range_operator : Axis → ℕ
range_operator Key = 43
range_operator Vel = 44

-- the range that the zone sets itself
abbrev pub own_range : Axis → Zone → Option ℕ
own_range axis z = map.get z.gens (range_operator axis)

-- the range of a zone without its own
abbrev pub inherited_range : Axis → GlobalZone → ℕ
inherited_range axis global = unwrap_or (map.get global.gens (range_operator axis)) whole_range

-- the effective range of a zone
abbrev pub range_of : Axis → GlobalZone → Zone → ℕ
range_of axis global z = unwrap_or (own_range axis z) (inherited_range axis global)

-- a zone that sets this range itself
abbrev pub with_range : Axis → ℕ → Zone → Zone
with_range axis range z = record z { gens = map.insert z.gens (range_operator axis) range }

-- a zone without a range of its own
abbrev pub without_range : Axis → Zone → Zone
without_range axis z = record z { gens = map.remove z.gens (range_operator axis) }

-- the effective range of zone k of owner i; none if there is no such zone
abbrev pub range_at : {H : Type 0} → Axis → List (ZoneOwner H) → ℕ → ℕ → Option ℕ
range_at axis owners i k =
    option_and_then (λ x. option_map (range_of axis x.global) (slice_get x.zones k)) (slice_get owners i)
