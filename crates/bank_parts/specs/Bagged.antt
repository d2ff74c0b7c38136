-- The bags of presets or instruments, and the presets or instruments of bags. `op` is the operator of targets.
use Rattle.std.specs.Prelude.{◌≡◌, ℕ, ◌+◌, ◌==◌, if◌then◌else◌, Bool, false, List, [], ◌∷◌, ◌++◌, length, map}
use Rattle.std.specs.Prelude.{Option, Some, None}
use Rattle.std.specs.List.{AllByRecursion}
use Rattle.std.specs.FinMap.{entries, from_sorted, empty, len, get}
use Rattle.generators.specs.Gens.{Gens, FitGens}
use Rattle.flat_records.specs.Bags.{Bag}
use Rattle.bank_parts.specs.declared.parts.GlobalZone.{GlobalZone}
use Rattle.bank_parts.specs.declared.parts.Zone.{Zone}
use Rattle.bank_parts.specs.declared.parts.ZoneOwner.{ZoneOwner}
use Rattle.bank_parts.specs.declared.owners.ZonePlace.{ZonePlace}
use Rattle.bank_parts.specs.declared.owners.ZonePlace.TheVariants as place

-- ---- the bags of zones

-- the bag of a zone: its generators in order, then its target as the last generator, and its modulators
abbrev pub zone_bag : ℕ → Zone → Bag
zone_bag op z = record { gens = entries z.gens ++ (op, z.target) ∷ []; mods = z.mods }

-- the bag of a global zone, which has no target
abbrev pub global_bag : GlobalZone → Bag
global_bag g = record { gens = entries g.gens; mods = g.mods }

-- an empty global zone has no bag
abbrev pub global_bags : GlobalZone → List Bag
global_bags g = if len g.gens + length g.mods == 0 then [] else (global_bag g ∷ [])

-- the bags of a preset or an instrument: that of the global zone, then one for each zone
abbrev pub bags_of : {H : Type 0} → ℕ → ZoneOwner H → List Bag
bags_of op x = global_bags x.global ++ map (zone_bag op) x.zones

-- the index of the bag of a place among the bags of its owner
abbrev pub bag_number : {H : Type 0} → ZonePlace → ZoneOwner H → Option ℕ
bag_number place.Global x = if len x.global.gens + length x.global.mods == 0 then None else Some 0
bag_number (place.Zone k) x = Some (length (global_bags x.global) + k)

-- ---- the zones of bags

-- the operator of the last generator is op
abbrev pub ends_in : ℕ → List (ℕ × ℕ) → Bool
ends_in op [] = false
ends_in op (e ∷ []) = e.0 == op
ends_in op (e ∷ (f ∷ es)) = ends_in op (f ∷ es)

-- all but the last
abbrev pub without_last : List (ℕ × ℕ) → List (ℕ × ℕ)
without_last [] = []
without_last (e ∷ []) = []
without_last (e ∷ (f ∷ es)) = e ∷ without_last (f ∷ es)

-- the amount of the last generator, 0 if there is none
abbrev pub last_amount : List (ℕ × ℕ) → ℕ
last_amount [] = 0
last_amount (e ∷ []) = e.1
last_amount (e ∷ (f ∷ es)) = last_amount (f ∷ es)

-- the generators of a bag without its target
abbrev pub without_target : ℕ → List (ℕ × ℕ) → List (ℕ × ℕ)
without_target op es = if ends_in op es then without_last es else es

-- the zone with this bag
abbrev pub zone_in : Bag → Zone
zone_in b = record { target = last_amount b.gens; gens = from_sorted (without_last b.gens); mods = b.mods }

-- an empty global zone
abbrev pub no_global : GlobalZone
no_global = record { gens = empty; mods = [] }

-- the owner with this head and these bags; the first bag is that of the global zone if it has no target
abbrev pub owner_in : {H : Type 0} → ℕ → H → List Bag → ZoneOwner H
owner_in op head [] = record { head = head; global = no_global; zones = [] }
owner_in op head (b ∷ bs) =
    if ends_in op b.gens
    then record { head = head; global = no_global; zones = map zone_in (b ∷ bs) }
    else record { head = head; global = record { gens = from_sorted b.gens; mods = b.mods }; zones = map zone_in bs }

-- ---- owners that can be read back from their bags

-- a map without the operator of targets, whose numbers lie in the ranges of their fields
pub record IsPlain (op : ℕ) (gens : Gens) : Type 0 where
  pub unset : get gens op ≡ None
  pub fit : FitGens gens

-- all maps of a preset or an instrument are such maps
pub record IsPlainOwner {H : Type 0} (op : ℕ) (x : ZoneOwner H) : Type 0 where
  pub global : IsPlain op x.global.gens
  pub zones : AllByRecursion (λ (z : Zone). IsPlain op z.gens) x.zones
