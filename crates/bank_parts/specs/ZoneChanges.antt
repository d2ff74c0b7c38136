-- The raw changes of the zones of a preset or an instrument, and of their contents.
use Rattle.std.specs.Prelude.{ℕ, List, insert, remove, slice_set}
use Rattle.std.specs.FinMap as map
use Rattle.base_numbered_lists.specs.Moved.{moved, changed}
use Rattle.modulators.specs.declared.modulator.Modulator.{Modulator}
use Rattle.bank_parts.specs.declared.parts.Zone.{Zone}
use Rattle.bank_parts.specs.declared.parts.ZoneOwner.{ZoneOwner}
use Rattle.bank_parts.specs.declared.owners.ZonePlace.{ZonePlace}
use Rattle.bank_parts.specs.Settings.{place_changed, zones_changed, with_gens, with_mods}

-- ---- zones

abbrev pub zone_added : {H : Type 0} → List (ZoneOwner H) → ℕ → ℕ → Zone → List (ZoneOwner H)
zone_added owners i k zone = zones_changed owners i (λ zones. insert zones k zone)

abbrev pub zone_removed : {H : Type 0} → List (ZoneOwner H) → ℕ → ℕ → List (ZoneOwner H)
zone_removed owners i k = zones_changed owners i (λ zones. remove zones k)

abbrev pub zone_moved : {H : Type 0} → List (ZoneOwner H) → ℕ → ℕ → ℕ → List (ZoneOwner H)
zone_moved owners i from to = zones_changed owners i (λ zones. moved zones from to)

abbrev pub with_target : ℕ → Zone → Zone
with_target target z = record z { target = target }

abbrev pub target_set : {H : Type 0} → List (ZoneOwner H) → ℕ → ℕ → ℕ → List (ZoneOwner H)
target_set owners i k target = zones_changed owners i (λ zones. changed zones k (with_target target))

-- ---- generators

abbrev pub gen_set : {H : Type 0} → List (ZoneOwner H) → ℕ → ZonePlace → ℕ → ℕ → List (ZoneOwner H)
gen_set owners i at op amount = place_changed owners i at (λ s. with_gens (map.insert s.gens op amount) s)

abbrev pub gen_cleared : {H : Type 0} → List (ZoneOwner H) → ℕ → ZonePlace → ℕ → List (ZoneOwner H)
gen_cleared owners i at op = place_changed owners i at (λ s. with_gens (map.remove s.gens op) s)

-- ---- modulators

abbrev pub mod_added : {H : Type 0} → List (ZoneOwner H) → ℕ → ZonePlace → ℕ → Modulator → List (ZoneOwner H)
mod_added owners i at j m = place_changed owners i at (λ s. with_mods (insert s.mods j m) s)

abbrev pub mod_removed : {H : Type 0} → List (ZoneOwner H) → ℕ → ZonePlace → ℕ → List (ZoneOwner H)
mod_removed owners i at j = place_changed owners i at (λ s. with_mods (remove s.mods j) s)

abbrev pub mod_set : {H : Type 0} → List (ZoneOwner H) → ℕ → ZonePlace → ℕ → Modulator → List (ZoneOwner H)
mod_set owners i at j m = place_changed owners i at (λ s. with_mods (slice_set s.mods j m) s)
