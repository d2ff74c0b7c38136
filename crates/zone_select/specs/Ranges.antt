-- Which notes a zone contains.
use Rattle.std.specs.Prelude.{ℕ, Bool, nat_le, ◌&&◌, List, [], unwrap_or}
use Rattle.std.specs.FinMap.{find}
use Rattle.generators.specs.Gens.{operator_cmp}
use Rattle.script_notes.specs.Notes.{Numbers}
use Rattle.bank_parts.specs.declared.parts.GlobalZone.{GlobalZone}
use Rattle.bank_parts.specs.declared.owners.ZonePlace.TheVariants as place
use Rattle.bank_parts.specs.declared.parts.Zone.{Zone}
use Rattle.bank_parts.specs.declared.parts.ZoneOwner.{ZoneOwner}
use Rattle.bank_parts.specs.Owners.{entries_at}
use Rattle.bank_zone_ranges.specs.declared.axes.Axis.TheVariants.{Key, Vel}
use Rattle.bank_zone_ranges.specs.Ranges.{low_end, high_end, whole_range, range_of}

-- a number is in a range
abbrev pub within : ℕ → ℕ → Bool
within range x = nat_le (low_end range) x && nat_le x (high_end range)

-- the key and velocity ranges of a zone, its own or its global zone's, contain the note
unfoldable pub holds : Numbers → GlobalZone → Zone → Bool
holds n global z = within (range_of Key global z) n.key && within (range_of Vel global z) n.velocity

-- the generators of the global zone of owner i
abbrev pub global_entries : {H : Type 0} → List (ZoneOwner H) → ℕ → List (ℕ × ℕ)
global_entries owners i = unwrap_or (entries_at owners i place.Global) []

-- the effective range that an operator sets, by the generators of the zone and of its global zone
abbrev pub range_in : List (ℕ × ℕ) → List (ℕ × ℕ) → ℕ → ℕ
range_in own global op =
    unwrap_or (find operator_cmp op own) (unwrap_or (find operator_cmp op global) whole_range)
