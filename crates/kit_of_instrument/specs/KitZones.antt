-- What the table of a kit says of the zones of an instrument.
use Rattle.std.specs.Prelude.{◌==◌, ◌&&◌, ◌%◌, ◌++◌, ℕ, ℤ, pos, negsuc, int_le, nat_le, nat_lt, Bool, true, false, not}
use Rattle.std.specs.Prelude.{if◌then◌else◌, codes, List, [], ◌∷◌, length, Option, Some, None, is_some, slice_get, unwrap_or}
use Rattle.std.specs.Int.{w16, cast_signed, int_max, int_min}
use Rattle.std.specs.List.{filter_map, list_all}
use Rattle.std.specs.Option.{option_map, option_map_or, option_or}
use Rattle.generators.specs.Levels.{is_one_of}
use Rattle.modulators.specs.declared.modulator.Modulator.{Modulator}
use Rattle.bank_parts.specs.declared.owners.ZonePlace.{ZonePlace}
use Rattle.bank_parts.specs.declared.owners.ZonePlace.TheVariants as there
use Rattle.bank_parts.specs.declared.parts.Parts.{Parts}
use Rattle.bank_parts.specs.declared.parts.Sample.{Sample}
use Rattle.bank_parts.specs.Owners.{entries_at, mods_at}
use Rattle.bank_changes.specs.declared.members.Owner.TheVariants as owner
use Rattle.bank_changes.specs.declared.members.Place.TheVariants as place
use Rattle.bank_changes.specs.Members.{amount_of}
use Rattle.kit_tables.specs.declared.zone.KitZone.{KitZone}
use Rattle.show_zone_map.specs.declared.rectangle.Rectangle.{Rectangle}
use Rattle.show_zone_map.specs.Rectangles.{everything, rectangle_at, zone_numbers}

-- ---- settings

-- the amount of an operator in zone l of instrument i: its own, else that of its global zone
abbrev pub amount_in : Parts → ℕ → ℕ → ℕ → Option ℕ
amount_in b i l op =
    option_or (amount_of b (owner.Inst i) (place.Zone l) op) (amount_of b (owner.Inst i) place.Global op)

-- an amount as a pan, clipped to -500 to 500
abbrev pub clipped_pan : ℕ → ℤ
clipped_pan amount = int_min (int_max (cast_signed w16 amount) (negsuc 499)) (pos 500)

-- an amount as an exclusive class: none unless it is 1 to 127
abbrev pub class_in : ℕ → Option ℕ
class_in amount = if nat_lt 0 amount && nat_le amount 127 then Some amount else None

abbrev pub kit_class : Option ℕ → Option ℕ
kit_class None = None
kit_class (Some amount) = class_in amount

-- ---- the zones of the table

-- the zone for the keys and velocities for which notes select a zone of instrument i
abbrev pub kit_zone : Parts → ℕ → Rectangle → KitZone
kit_zone b i r = record {
  keys = r.area.keys;
  velocities = r.area.velocities;
  root = Some r.root;
  pan = option_map clipped_pan (amount_in b i r.zone 17);
  class = kit_class (amount_in b i r.zone 57);
}

-- the path of a sample's file from the folder of the table, for the names of the files of all samples
abbrev pub file_at : List (List ℕ) → ℕ → List ℕ
file_at files sample = codes "samples/" ++ unwrap_or (slice_get files sample) []

abbrev pub with_file : List (List ℕ) → Parts → ℕ → Rectangle → List ℕ × KitZone
with_file files b i r = (file_at files r.sample, kit_zone b i r)

-- what the table says of zone l of instrument i, with the file of its sample; nothing if no note selects the zone
abbrev pub listed_zone : List (List ℕ) → Parts → ℕ → ℕ → Option (List ℕ × KitZone)
listed_zone files b i l = option_map (with_file files b i) (rectangle_at b None everything i l)

-- all zones of the table
abbrev pub kit_zones : List (List ℕ) → Parts → ℕ → List (List ℕ × KitZone)
kit_zones files b i = filter_map (listed_zone files b i) (zone_numbers b (owner.Inst i))

-- ---- zones of which a table says all

-- ranges, pan, sample modes, exclusive class and root key
abbrev pub is_in_tables : ℕ → Bool
is_in_tables op = is_one_of (43 ∷ 44 ∷ 17 ∷ 54 ∷ 57 ∷ 58 ∷ []) op

abbrev pub are_in_tables : Option (List (ℕ × ℕ)) → Bool
are_in_tables entries = option_map_or (list_all (λ (e : ℕ × ℕ). is_in_tables e.0)) entries true

abbrev pub are_none : Option (List Modulator) → Bool
are_none mods = option_map_or (λ (ms : List Modulator). length ms == 0) mods true

-- a place of instrument i sets only what tables have, and has no modulators
abbrev pub is_plain : Parts → ℕ → ZonePlace → Bool
is_plain b i at = are_in_tables (entries_at b.instruments i at) && are_none (mods_at b.instruments i at)

-- a sample has a loop
abbrev pub has_loop : Parts → ℕ → Bool
has_loop b sample = option_map_or (λ (s : Sample). is_some s.looped) (slice_get b.samples sample) false

-- The low two bits of the sample modes are those of a kit's zone, which plays a loop without end: 1 if the sample has a
-- loop; if it has none, 0 to 2 are alike.
abbrev pub has_kit_mode : Bool → Option ℕ → Bool
has_kit_mode true modes = option_map_or (λ (a : ℕ). a % 4) modes 0 == 1
has_kit_mode false modes = not (option_map_or (λ (a : ℕ). a % 4) modes 0 == 3)

abbrev pub is_pan : ℕ → Bool
is_pan amount = int_le (negsuc 499) (cast_signed w16 amount) && int_le (cast_signed w16 amount) (pos 500)

-- the pan, the class and the modes of a zone can be those of a table
abbrev pub has_kit_amounts : Parts → ℕ → Rectangle → Bool
has_kit_amounts b i r =
    option_map_or is_pan (amount_in b i r.zone 17) true
    && option_map_or (λ (a : ℕ). nat_le a 127) (amount_in b i r.zone 57) true
    && has_kit_mode (has_loop b r.sample) (amount_in b i r.zone 54)

-- the table says all of zone l of instrument i, apart from its global zone
abbrev pub is_whole : Parts → ℕ → ℕ → Bool
is_whole b i l =
    is_plain b i (there.Zone l)
    && option_map_or (has_kit_amounts b i) (rectangle_at b None everything i l) false
