-- Notes select zones exactly where they have rectangles, and no zone has two.
use Rattle.std.specs.Prelude.{◌≡◌, ◌≤◌, ◌↔◌, ℕ, Bool, true, false, ◌==◌, ◌&&◌, nat_le, length, slice_get}
use Rattle.std.specs.List.{Contains, find, filter, list_any}
use Rattle.std.specs.Option.{option_map_or}
use Rattle.generators.specs.declared.range.Range.{Range}
use Rattle.script_notes.specs.Notes.{Numbers}
use Rattle.bank_parts.specs.declared.parts.Parts.{Parts}
use Rattle.bank_changes.specs.declared.members.Owner.TheVariants as owner
use Rattle.zone_select.specs.Select.{has_preset_numbers}
use Rattle.zone_select.specs.Pairs.{pairs}
use Rattle.zone_select.specs.Remaining.{owner_holds}
use Rattle.show_zone_map.specs.declared.rectangle.Rectangle.{Rectangle}
use Rattle.show_zone_map.specs.Rectangles.{rectangles}

abbrev pub is_in : Range → ℕ → Bool
is_in range x = nat_le range.low x && nat_le x range.high

-- a rectangle contains the key and the velocity of a note
abbrev pub covers : Numbers → Rectangle → Bool
covers n r = is_in r.area.keys n.key && is_in r.area.velocities n.velocity

-- a rectangle of zone l of an instrument
abbrev pub is_of_zone : ℕ → Rectangle → Bool
is_of_zone l r = r.zone == l

-- a rectangle of zone k of a preset with zone l of its instrument
abbrev pub is_of_pair : ℕ → ℕ → Rectangle → Bool
is_of_pair k l r = option_map_or (λ j. j == k) r.preset_zone false && is_of_zone l r

-- for the first preset with a note's bank and preset number: a pair is selected exactly if a rectangle of the pair
-- covers the note
abbrev pub PairsSelected : Type 0
PairsSelected = (b : Parts) (n : Numbers) (p k l : ℕ) → find (has_preset_numbers n) b.presets ≡ slice_get b.presets p
    → Contains (pairs b n) (k, l) ↔
    (list_any (λ r. is_of_pair k l r && covers n r) (rectangles b (owner.Preset p)) ≡ true)

-- no pair has two rectangles
abbrev pub PairsOnce : Type 0
PairsOnce = (b : Parts) (p k l : ℕ) → length (filter (is_of_pair k l) (rectangles b (owner.Preset p))) ≤ 1

-- for an instrument: a zone contains a note exactly if a rectangle of the zone covers it
abbrev pub ZonesHold : Type 0
ZonesHold = (b : Parts) (n : Numbers) (i l : ℕ) → n.key ≤ 127 → n.velocity ≤ 127
    → owner_holds b n (owner.Inst i) l
    ≡ list_any (λ r. is_of_zone l r && covers n r) (rectangles b (owner.Inst i))

-- no zone has two rectangles
abbrev pub ZonesOnce : Type 0
ZonesOnce = (b : Parts) (i l : ℕ) → length (filter (is_of_zone l) (rectangles b (owner.Inst i))) ≤ 1
