-- Zones that no note selects.
use Rattle.std.specs.Prelude.{ℕ, Bool, false, cond, ◌==◌, ◌&&◌, ◌||◌, not, nat_lt, List, length, is_some}
use Rattle.std.specs.Prelude.{Option, Some, None}
use Rattle.std.specs.List.{flat_map, filter_map, list_any}
use Rattle.std.specs.Option.{option_map_or}
use Rattle.bank_parts.specs.declared.parts.Parts.{Parts}
use Rattle.bank_changes.specs.declared.members.Owner.{Owner}
use Rattle.bank_changes.specs.declared.members.Owner.TheVariants as owner
use Rattle.bank_changes.specs.Members.{target_of}
use Rattle.show_zone_map.specs.Rectangles.{area_of, everything, rectangle_at, rectangles_of_zone, zone_numbers}
use Rattle.show_findings.specs.declared.finding.Finding.{Finding}
use Rattle.show_findings.specs.declared.finding.Finding.TheVariants.{UnselectableZone}
use Rattle.show_findings.specs.Numbers.{preset_owners, owners}

-- a zone has this target
abbrev pub is_target_of : Parts → Owner → ℕ → ℕ → Bool
is_target_of b o k t = option_map_or (λ (u : ℕ). u == t) (target_of b o k) false

-- some zone of a preset passes a test
abbrev pub any_preset_zone : Parts → (Owner → ℕ → Bool) → Bool
any_preset_zone b test = list_any (λ (o : Owner). list_any (test o) (zone_numbers b o)) (preset_owners b)

-- some zone of a preset targets the instrument
abbrev pub is_instrument_used : Parts → ℕ → Bool
is_instrument_used b i = any_preset_zone b (λ o k. is_target_of b o k i)

-- some zone of a preset makes a rectangle with zone l of the instrument
abbrev pub is_reached : Parts → ℕ → ℕ → Bool
is_reached b i l =
    any_preset_zone b (λ o k. is_target_of b o k i && is_some (rectangle_at b (Some k) (area_of b o k) i l))

-- a zone of a preset has a rectangle with some zone of its instrument; a zone of an instrument has one, and where the
-- instrument is used, one with some zone of a preset
abbrev pub is_selectable : Parts → Owner → ℕ → Bool
is_selectable b (owner.Preset p) k = nat_lt 0 (length (rectangles_of_zone b p k))
is_selectable b (owner.Inst i) l =
    is_some (rectangle_at b None everything i l) && (not (is_instrument_used b i) || is_reached b i l)

abbrev pub unselectable_zone : Parts → Owner → ℕ → Option Finding
unselectable_zone b o k = cond (is_selectable b o k) None (Some (UnselectableZone o k))

unfoldable pub unselectable_zones : Parts → List Finding
unselectable_zones b = flat_map (λ o. filter_map (unselectable_zone b o) (zone_numbers b o)) (owners b)
