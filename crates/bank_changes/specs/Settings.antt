-- The raw changes of the generators and modulators of a place.
use Rattle.std.specs.Prelude.{ℕ, List, length}
use Rattle.std.specs.Option.{option_map_or}
use Rattle.std.specs.FinMap.{len}
use Rattle.modulators.specs.declared.modulator.Modulator.{Modulator}
use Rattle.bank_parts.specs.declared.parts.Parts.{Parts}
use Rattle.bank_parts.specs.declared.parts.ZoneOwner.{ZoneOwner}
use Rattle.bank_parts.specs.declared.counting.Records.{Records}
use Rattle.bank_parts.specs.declared.owners.ZonePlace.{ZonePlace}
use Rattle.bank_parts.specs.declared.owners.ZonePlace.TheVariants as place
use Rattle.bank_parts.specs.Counts.{records_of_global}
use Rattle.bank_parts.specs.Settings.{Settings, place_changed, settings_at}
use Rattle.bank_parts.specs.ZoneChanges as list
use Rattle.bank_changes.specs.declared.members.Owner.{Owner}
use Rattle.bank_changes.specs.declared.members.Place.{Place}
use Rattle.bank_changes.specs.declared.members.Place.TheVariants as place_of
use Rattle.bank_changes.specs.Members.{read_of_owner, owner_list_changed, zone_place}

-- the settings of the place are changed by f, and nothing else changes
abbrev pub owner_place_changed : Parts → Owner → Place → (Settings → Settings) → Parts
owner_place_changed b o at f = owner_list_changed b o (λ _ owners i. place_changed owners i (zone_place at) f)

-- ---- generators

-- the operator has the amount
abbrev pub gen_set : Parts → Owner → Place → ℕ → ℕ → Parts
gen_set b o at op amount = owner_list_changed b o (λ _ owners i. list.gen_set owners i (zone_place at) op amount)

-- the operator is not set
abbrev pub gen_cleared : Parts → Owner → Place → ℕ → Parts
gen_cleared b o at op = owner_list_changed b o (λ _ owners i. list.gen_cleared owners i (zone_place at) op)

-- ---- modulators

-- the modulator is inserted as number j
abbrev pub mod_added : Parts → Owner → Place → ℕ → Modulator → Parts
mod_added b o at j m = owner_list_changed b o (λ _ owners i. list.mod_added owners i (zone_place at) j m)

-- modulator j is removed
abbrev pub mod_removed : Parts → Owner → Place → ℕ → Parts
mod_removed b o at j = owner_list_changed b o (λ _ owners i. list.mod_removed owners i (zone_place at) j)

-- modulator j is replaced
abbrev pub mod_set : Parts → Owner → Place → ℕ → Modulator → Parts
mod_set b o at j m = owner_list_changed b o (λ _ owners i. list.mod_set owners i (zone_place at) j m)

-- ---- records

-- the records of a place: the bag of a zone is not counted here, and an empty global zone has none
abbrev pub records_of_place : ZonePlace → Settings → Records
records_of_place place.Global s = records_of_global s
records_of_place (place.Zone k) s = record { zones = 0; gens = len s.gens; mods = length s.mods }

abbrev pub no_records : Records
no_records = record { zones = 0; gens = 0; mods = 0 }

-- the records of a place of owner i; all 0 if there is no such place
abbrev pub records_at : {H : Type 0} → List (ZoneOwner H) → ℕ → ZonePlace → Records
records_at owners i at = option_map_or (records_of_place at) (settings_at owners i at) no_records

-- the records of a place of a bank; all 0 if there is no such place
abbrev pub place_records : Parts → Owner → Place → Records
place_records b o at = read_of_owner b o (λ _ owners i. records_at owners i (zone_place at))

-- how many bags a place adds when it is not empty: the bag of a zone that is not global is always counted elsewhere
abbrev pub zones_at : Place → ℕ
zones_at place_of.Global = 1
zones_at (place_of.Zone k) = 0
