-- What the calls return of presets or instruments, by number; none if there is no such owner, zone or modulator.
use Rattle.std.specs.Prelude.{◌<◌, ◌==◌, ℕ, Bool, List, length, Option, IsSomeAnd, slice_get}
use Rattle.std.specs.Option.{option_map, option_and_then}
use Rattle.std.specs.List.{list_any}
use Rattle.std.specs.FinMap.{entries, get}
use Rattle.generators.specs.Gens.{Gens}
use Rattle.modulators.specs.declared.modulator.Modulator.{Modulator}
use Rattle.bank_parts.specs.declared.parts.Zone.{Zone}
use Rattle.bank_parts.specs.declared.parts.ZoneOwner.{ZoneOwner}
use Rattle.bank_parts.specs.declared.owners.ZonePlace.{ZonePlace}
use Rattle.bank_parts.specs.declared.owners.ZonePlace.TheVariants as place

-- the head of an owner
abbrev pub head_at : {H : Type 0} → List (ZoneOwner H) → ℕ → Option H
head_at owners i = option_map (λ x. x.head) (slice_get owners i)

-- an owner with another head
abbrev pub with_head : {H : Type 0} → H → ZoneOwner H → ZoneOwner H
with_head head x = record x { head = head }

-- the number of zones of an owner, not counting the global zone
abbrev pub zone_count_at : {H : Type 0} → List (ZoneOwner H) → ℕ → Option ℕ
zone_count_at owners i = option_map (λ x. length x.zones) (slice_get owners i)

-- zone k of an owner
abbrev pub zone_at : {H : Type 0} → List (ZoneOwner H) → ℕ → ℕ → Option Zone
zone_at owners i k = option_and_then (λ x. slice_get x.zones k) (slice_get owners i)

-- an owner exists and has this place: its global zone, or a zone with this number
abbrev pub HasPlace : {H : Type 0} → List (ZoneOwner H) → ℕ → ZonePlace → Type 0
HasPlace owners i place.Global = i < length owners
HasPlace owners i (place.Zone k) = IsSomeAnd (zone_count_at owners i) (λ n. k < n)

-- the target of a zone
abbrev pub target_at : {H : Type 0} → List (ZoneOwner H) → ℕ → ℕ → Option ℕ
target_at owners i k = option_map (λ (z : Zone). z.target) (zone_at owners i k)

-- the generators of a place
abbrev pub gens_at : {H : Type 0} → List (ZoneOwner H) → ℕ → ZonePlace → Option Gens
gens_at owners i place.Global = option_map (λ x. x.global.gens) (slice_get owners i)
gens_at owners i (place.Zone k) = option_map (λ (z : Zone). z.gens) (zone_at owners i k)

-- the generators of a place in the order of a file
abbrev pub entries_at : {H : Type 0} → List (ZoneOwner H) → ℕ → ZonePlace → Option (List (ℕ × ℕ))
entries_at owners i at = option_map entries (gens_at owners i at)

-- the modulators of a place
abbrev pub mods_at : {H : Type 0} → List (ZoneOwner H) → ℕ → ZonePlace → Option (List Modulator)
mods_at owners i place.Global = option_map (λ x. x.global.mods) (slice_get owners i)
mods_at owners i (place.Zone k) = option_map (λ (z : Zone). z.mods) (zone_at owners i k)

-- the amount of an operator at a place; none if it is not set
abbrev pub amount_at : {H : Type 0} → List (ZoneOwner H) → ℕ → ZonePlace → ℕ → Option ℕ
amount_at owners i at op = option_and_then (λ gens. get gens op) (gens_at owners i at)

-- modulator j of a place
abbrev pub mod_at : {H : Type 0} → List (ZoneOwner H) → ℕ → ZonePlace → ℕ → Option Modulator
mod_at owners i at j = option_and_then (λ mods. slice_get mods j) (mods_at owners i at)

-- some zone has this number as its target
abbrev pub targets : {H : Type 0} → ℕ → ZoneOwner H → Bool
targets number x = list_any (λ (z : Zone). z.target == number) x.zones
