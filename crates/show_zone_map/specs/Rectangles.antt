-- The keys and velocities for which notes select zones, as rectangles.
use Rattle.std.specs.Prelude.{ℕ, Bool, ◌&&◌, nat_le, cond, List, [], min, max, Option, Some, None, unwrap_or, slice_get}
use Rattle.std.specs.List.{flat_map, filter_map, range_with_len}
use Rattle.std.specs.Option.{option_or, option_and_then, option_map_or}
use Rattle.generators.specs.declared.range.Range.{Range}
use Rattle.bank_parts.specs.declared.parts.Sample.{Sample}
use Rattle.bank_parts.specs.declared.parts.Parts.{Parts}
use Rattle.bank_changes.specs.declared.members.Owner.{Owner}
use Rattle.bank_changes.specs.declared.members.Owner.TheVariants as owner
use Rattle.bank_changes.specs.declared.members.Place.TheVariants as place
use Rattle.bank_changes.specs.Members.{target_of, amount_of}
use Rattle.bank_changes.specs.Zones.{range_of_zone}
use Rattle.bank_zone_ranges.specs.declared.axes.Axis.{Axis}
use Rattle.bank_zone_ranges.specs.declared.axes.Axis.TheVariants.{Key, Vel}
use Rattle.bank_zone_ranges.specs.Ranges.{low_end, high_end, whole_range}
use Rattle.zone_select.specs.Remaining.{zones_in}
use Rattle.show_zone_map.specs.declared.rectangle.Area.{Area}
use Rattle.show_zone_map.specs.declared.rectangle.Rectangle.{Rectangle}

-- ---- ranges

abbrev pub ends : ℕ → Range
ends range = record { low = low_end range; high = high_end range }

-- the range of zone k of an owner: its own, else its global zone's, else 0 to 127
abbrev pub effective_range : Parts → Owner → ℕ → Axis → Range
effective_range b o k axis = ends (unwrap_or (range_of_zone b o k axis) whole_range)

abbrev pub area_of : Parts → Owner → ℕ → Area
area_of b o k = record { keys = effective_range b o k Key; velocities = effective_range b o k Vel }

-- all keys and velocities
abbrev pub everything : Area
everything = record { keys = ends whole_range; velocities = ends whole_range }

-- the intersection of two ranges; the high end is below the low one if it is empty
abbrev pub common : Range → Range → Range
common r s = record { low = max r.low s.low; high = min r.high s.high }

abbrev pub intersection : Area → Area → Area
intersection x y = record { keys = common x.keys y.keys; velocities = common x.velocities y.velocities }

abbrev pub has_notes : Area → Bool
has_notes x = nat_le x.keys.low x.keys.high && nat_le x.velocities.low x.velocities.high

-- ---- root keys

-- a number if it is a key, else another one
abbrev pub key_or : ℕ → ℕ → ℕ
key_or n other = cond (nat_le n 127) n other

abbrev pub sample_root : Parts → ℕ → ℕ
sample_root b s = option_map_or (λ (x : Sample). key_or x.key 60) (slice_get b.samples s) 60

-- the root key of zone l of an instrument, whose sample is s: its generator 58, else its global zone's, else the
-- sample's key, else 60
abbrev pub root_key : Parts → ℕ → ℕ → ℕ → ℕ
root_key b i l s =
    option_map_or (λ n. key_or n (sample_root b s))
    (option_or (amount_of b (owner.Inst i) (place.Zone l) 58) (amount_of b (owner.Inst i) place.Global 58))
    (sample_root b s)

-- ---- rectangles

-- the intersection of an area and zone l of an instrument, whose sample is s, alone or through a preset's zone
abbrev pub rectangle_of : Parts → Option ℕ → Area → ℕ → ℕ → ℕ → Rectangle
rectangle_of b outer area i l s =
    record {
      preset_zone =
          outer;
      zone = l;
      sample = s;
      area = intersection area (area_of b (owner.Inst i) l);
      root = root_key b i l s;
    }

-- a rectangle, if it contains a note
abbrev pub with_notes : Rectangle → Option Rectangle
with_notes r = cond (has_notes r.area) (Some r) None

-- `None` if the intersection is empty
abbrev pub rectangle_at : Parts → Option ℕ → Area → ℕ → ℕ → Option Rectangle
rectangle_at b outer area i l =
    option_and_then (λ (s : ℕ). with_notes (rectangle_of b outer area i l s)) (target_of b (owner.Inst i) l)

-- the numbers of an owner's zones
abbrev pub zone_numbers : Parts → Owner → List ℕ
zone_numbers b o = range_with_len 0 (zones_in b o)

-- the rectangles of an instrument's zones within an area
abbrev pub rectangles_in : Parts → Option ℕ → Area → ℕ → List Rectangle
rectangles_in b outer area i = filter_map (rectangle_at b outer area i) (zone_numbers b (owner.Inst i))

-- the rectangles of zone k of a preset: those of its instrument, within the area of that zone
abbrev pub rectangles_of_zone : Parts → ℕ → ℕ → List Rectangle
rectangles_of_zone b p k =
    option_map_or (λ (i : ℕ). rectangles_in b (Some k) (area_of b (owner.Preset p) k) i)
    (target_of b (owner.Preset p) k) []

-- for an instrument, those of its zones; for a preset, those of each zone with each zone of its instrument; in
-- ascending order
unfoldable pub rectangles : Parts → Owner → List Rectangle
rectangles b (owner.Preset p) = flat_map (rectangles_of_zone b p) (zone_numbers b (owner.Preset p))
rectangles b (owner.Inst i) = rectangles_in b None everything i
