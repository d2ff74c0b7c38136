-- The zones of a kit.
use Rattle.std.specs.Prelude.{◌==◌, ◌&&◌, ◌+◌, ◌*◌, ◌++◌, ◌∷◌, [], ℕ, ℤ, pos, ◌+ℤ◌, Bool, if◌then◌else◌}
use Rattle.std.specs.Prelude.{List, slice_get, Option, Some, None, unwrap_or}
use Rattle.std.specs.Int.{w16, cast_unsigned, int_max, int_min}
use Rattle.std.specs.Option.{option_map, option_map_or, option_or}
use Rattle.generators.specs.Gens.{Gens, no_gens, set_in_order}
use Rattle.generators.specs.declared.range.Range.{Range}
use Rattle.generators.specs.declared.operators.TheConstants.{KEY_RANGE, VEL_RANGE, OVERRIDING_ROOT_KEY, PAN}
use Rattle.generators.specs.declared.operators.TheConstants.{SAMPLE_MODES, EXCLUSIVE_CLASS}
use Rattle.bank_parts.specs.declared.parts.Zone.{Zone}
use Rattle.kit_tables.specs.declared.zone.KitZone.{KitZone}
use Rattle.kit_edits.specs.declared.numbers.Numbered.{Numbered}
use Rattle.kit_edits.specs.declared.settings.TheConstants.{LEFT, RIGHT, LOOPED}

-- ---- settings

-- an operator with its amount, if there is one
abbrev pub setting : ℕ → Option ℕ → List (ℕ × ℕ)
setting operator None = []
setting operator (Some amount) = (operator, amount) ∷ []

-- the amount of a range; none if it is of all keys or velocities
abbrev pub range_amount : Range → Option ℕ
range_amount r = if r.low == 0 && r.high == 127 then None else Some (r.low + 256 * r.high)

-- the key at which a zone plays at its recorded pitch: the one given, or its only key
abbrev pub root_of : KitZone → Option ℕ
root_of z = option_or z.root (if z.keys.low == z.keys.high then Some z.keys.low else None)

-- what a zone sets, with this pan, if its sample may have a loop
abbrev pub settings : KitZone → Option ℤ → Bool → List (ℕ × ℕ)
settings z pan is_looped =
    setting KEY_RANGE (range_amount z.keys)
    ++ setting VEL_RANGE (range_amount z.velocities)
    ++ setting OVERRIDING_ROOT_KEY (root_of z)
    ++ setting PAN (option_map (cast_unsigned w16) pan)
    ++ setting SAMPLE_MODES (if is_looped then Some LOOPED else None)
    ++ setting EXCLUSIVE_CLASS z.class

abbrev pub zone_gens : KitZone → Option ℤ → Bool → Gens
zone_gens z pan is_looped = set_in_order no_gens (settings z pan is_looped)

-- ---- pan

-- The pan of the left sample of a zone: -500, and further right as far as the zone is right of the middle.
abbrev pub left_pan : Option ℤ → ℤ
left_pan pan = int_max (unwrap_or pan (pos 0)) (pos 0) +ℤ LEFT

-- The pan of the right sample of a zone: 500, and further left as far as the zone is left of the middle.
abbrev pub right_pan : Option ℤ → ℤ
right_pan pan = int_min (unwrap_or pan (pos 0)) (pos 0) +ℤ RIGHT

-- ---- zones

-- the zone of one sample
abbrev pub zone_of : ℕ → KitZone → Option ℤ → Bool → Zone
zone_of target z pan is_looped = record { target = target; gens = zone_gens z pan is_looped; mods = [] }

-- the zone of a mono recording, or the left and the right zone of a stereo recording
abbrev pub recording_zones : KitZone → Numbered → List Zone
recording_zones z r =
    if r.is_stereo
    then zone_of r.left z (Some (left_pan z.pan)) r.is_looped
    ∷ zone_of r.right z (Some (right_pan z.pan)) r.is_looped ∷ []
    else zone_of r.left z z.pan r.is_looped ∷ []

-- the zones of a row, which has the number of a recording; none if there is no such recording
abbrev pub row_zones : List Numbered → ℕ × KitZone → List Zone
row_zones recordings row = option_map_or (recording_zones row.1) (slice_get recordings row.0) []
