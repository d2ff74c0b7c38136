-- The settings of a place, its generators and modulators, read and changed in one way for the global zone and for
-- other zones; and the zones of an owner.
use Rattle.std.specs.Prelude.{ℕ, List, Option, Some, slice_get}
use Rattle.std.specs.Option.{option_map, option_and_then}
use Rattle.base_numbered_lists.specs.Moved.{changed}
use Rattle.generators.specs.Gens.{Gens}
use Rattle.modulators.specs.declared.modulator.Modulator.{Modulator}
use Rattle.bank_parts.specs.declared.parts.GlobalZone.{GlobalZone}
use Rattle.bank_parts.specs.declared.parts.Zone.{Zone}
use Rattle.bank_parts.specs.declared.parts.ZoneOwner.{ZoneOwner}
use Rattle.bank_parts.specs.declared.owners.ZonePlace.{ZonePlace}
use Rattle.bank_parts.specs.declared.owners.ZonePlace.TheVariants as place

-- ---- the settings of a place, in the form of a global zone, which has nothing else

abbrev pub Settings : Type 0
Settings = GlobalZone

abbrev pub settings_of_zone : Zone → Settings
settings_of_zone z = record { gens = z.gens; mods = z.mods }

abbrev pub zone_with_settings : Settings → Zone → Zone
zone_with_settings s z = record z { gens = s.gens; mods = s.mods }

-- the settings of a place of an owner; none if there is no such zone
abbrev pub settings_in : {H : Type 0} → ZonePlace → ZoneOwner H → Option Settings
settings_in place.Global x = Some x.global
settings_in (place.Zone k) x = option_map settings_of_zone (slice_get x.zones k)

-- the settings of the place are changed by f, and nothing else changes
abbrev pub settings_changed : {H : Type 0} → ZonePlace → (Settings → Settings) → ZoneOwner H → ZoneOwner H
settings_changed place.Global f x = record x { global = f x.global }
settings_changed (place.Zone k) f x =
    record x { zones = changed x.zones k (λ (z : Zone). zone_with_settings (f (settings_of_zone z)) z) }

-- the settings of a place of owner i
abbrev pub settings_at : {H : Type 0} → List (ZoneOwner H) → ℕ → ZonePlace → Option Settings
settings_at owners i at = option_and_then (settings_in at) (slice_get owners i)

-- the settings of a place of owner i are changed by f
abbrev pub place_changed : {H : Type 0} → List (ZoneOwner H) → ℕ → ZonePlace → (Settings → Settings)
    → List (ZoneOwner H)
place_changed owners i at f = changed owners i (settings_changed at f)

-- ---- the zones of an owner

abbrev pub zones_at : {H : Type 0} → List (ZoneOwner H) → ℕ → Option (List Zone)
zones_at owners i = option_map (λ x. x.zones) (slice_get owners i)

abbrev pub with_zones : {H : Type 0} → List Zone → ZoneOwner H → ZoneOwner H
with_zones zones x = record x { zones = zones }

-- the zones of owner i are changed by f, and nothing else changes
abbrev pub zones_changed : {H : Type 0} → List (ZoneOwner H) → ℕ → (List Zone → List Zone) → List (ZoneOwner H)
zones_changed owners i f = changed owners i (λ x. with_zones (f x.zones) x)

-- ---- settings with other generators, or other modulators

abbrev pub with_gens : Gens → Settings → Settings
with_gens gens s = record s { gens = gens }

abbrev pub with_mods : List Modulator → Settings → Settings
with_mods mods s = record s { mods = mods }
