-- The members of a bank by number; none if there is no such member.
use Rattle.std.specs.Prelude.{ℕ, List, length, Option, slice_get}
use Rattle.std.specs.Option.{option_and_then}
use Rattle.std.specs.FinMap.{entries, get}
use Rattle.generators.specs.Gens.{Gens}
use Rattle.generators.specs.declared.level.Level.{Level}
use Rattle.generators.specs.declared.level.Level.TheVariants as level
use Rattle.modulators.specs.declared.modulator.Modulator.{Modulator}
use Rattle.bank_changes.specs.declared.members.List.{List as BankList}
use Rattle.bank_changes.specs.declared.members.List.TheVariants.{Presets, Instruments, Samples}
use Rattle.bank_changes.specs.declared.members.Owner.{Owner}
use Rattle.bank_changes.specs.declared.members.Owner.TheVariants as owner
use Rattle.bank_changes.specs.declared.members.Place.{Place}
use Rattle.bank_changes.specs.declared.members.Place.TheVariants as place
use Rattle.bank_parts.specs.declared.owners.ZonePlace.{ZonePlace}
use Rattle.bank_parts.specs.declared.owners.ZonePlace.TheVariants as there
use Rattle.bank_parts.specs.declared.parts.Head.{Head}
use Rattle.bank_parts.specs.declared.parts.Parts.{Parts}
use Rattle.bank_parts.specs.declared.parts.ZoneOwner.{ZoneOwner}
use Rattle.bank_parts.specs.declared.parts.Zone.{Zone}
use Rattle.bank_parts.specs.Owners.{head_at, zone_count_at, zone_at, target_at, gens_at, mods_at}
use Rattle.bank_parts.specs.Settings.{Settings, settings_at, zones_at}

-- the length of a list
abbrev pub member_count : Parts → BankList → ℕ
member_count b Presets = length b.presets
member_count b Instruments = length b.instruments
member_count b Samples = length b.samples

-- the head of a preset
abbrev pub head_of : Parts → ℕ → Option Head
head_of b p = head_at b.presets p

-- the name of an instrument
abbrev pub instrument_name_of : Parts → ℕ → Option (List ℕ)
instrument_name_of b i = head_at b.instruments i

-- ---- an owner, a preset or an instrument, as the list that has it and its number there

-- what f reads of the list and the number
abbrev pub read_of_owner : {X : Type 0} → Parts → Owner → ((H : Type 0) → List (ZoneOwner H) → ℕ → X) → X
read_of_owner b (owner.Preset p) f = f _ b.presets p
read_of_owner b (owner.Inst i) f = f _ b.instruments i

-- the list is changed by f, and nothing else changes
abbrev pub owner_list_changed : Parts → Owner → ((H : Type 0) → List (ZoneOwner H) → ℕ → List (ZoneOwner H)) → Parts
owner_list_changed b (owner.Preset p) f = record b { presets = f _ b.presets p }
owner_list_changed b (owner.Inst i) f = record b { instruments = f _ b.instruments i }

-- ---- the zones of an owner

-- how many there are, not counting the global zone
abbrev pub owner_zone_count : Parts → Owner → Option ℕ
owner_zone_count b o = read_of_owner b o (λ _ owners i. zone_count_at owners i)

-- the target of zone k
abbrev pub target_of : Parts → Owner → ℕ → Option ℕ
target_of b o k = read_of_owner b o (λ _ owners i. target_at owners i k)

-- all of them, in order
abbrev pub zones_of : Parts → Owner → Option (List Zone)
zones_of b o = read_of_owner b o (λ _ owners i. zones_at owners i)

-- zone k
abbrev pub zone_of : Parts → Owner → ℕ → Option Zone
zone_of b o k = read_of_owner b o (λ _ owners i. zone_at owners i k)

-- the level of its zones
abbrev pub level_of : Owner → Level
level_of (owner.Preset p) = level.Preset
level_of (owner.Inst i) = level.Inst

-- the number of instruments or samples that its zones may target
abbrev pub target_count : Parts → Owner → ℕ
target_count b (owner.Preset p) = length b.instruments
target_count b (owner.Inst i) = length b.samples

-- ---- the generators and modulators of a place

-- the place in the form that `Owners` uses
abbrev pub zone_place : Place → ZonePlace
zone_place place.Global = there.Global
zone_place (place.Zone k) = there.Zone k

-- the generators of a place
abbrev pub gens_of : Parts → Owner → Place → Option Gens
gens_of b o at = read_of_owner b o (λ _ owners i. gens_at owners i (zone_place at))

-- the modulators of a place
abbrev pub mods_of : Parts → Owner → Place → Option (List Modulator)
mods_of b o at = read_of_owner b o (λ _ owners i. mods_at owners i (zone_place at))

-- the generators and the modulators of a place
abbrev pub settings_of : Parts → Owner → Place → Option Settings
settings_of b o at = read_of_owner b o (λ _ owners i. settings_at owners i (zone_place at))

-- the amount of an operator; none if it is not set
abbrev pub amount_of : Parts → Owner → Place → ℕ → Option ℕ
amount_of b o at op = option_and_then (λ (gens : Gens). get gens op) (gens_of b o at)

-- generator j in the order of a file
abbrev pub gen_at : Parts → Owner → Place → ℕ → Option (ℕ × ℕ)
gen_at b o at j = option_and_then (λ (gens : Gens). slice_get (entries gens) j) (gens_of b o at)

-- modulator j
abbrev pub mod_at : Parts → Owner → Place → ℕ → Option Modulator
mod_at b o at j = option_and_then (λ (mods : List Modulator). slice_get mods j) (mods_of b o at)
