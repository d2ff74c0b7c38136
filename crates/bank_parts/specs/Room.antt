-- The capacity of flat lists.
use Rattle.std.specs.Prelude.{◌<◌, ◌≤◌, ◌+◌, ◌^◌, ◌||◌, ℕ, Bool, List, length, sum_by, is_some}
use Rattle.std.specs.List.{AllByRecursion, list_any}
use Rattle.std.specs.FinMap.{get, len}
use Rattle.generators.specs.Levels.{target_operator}
use Rattle.generators.specs.declared.level.Level.{Level}
use Rattle.generators.specs.declared.level.Level.TheVariants as level
use Rattle.flat_records.specs.Bags.{Bag, gens_in, mods_in}
use Rattle.flat_records.specs.Owned.{all_bags}
use Rattle.flat_records.specs.OwnersStored.{Stored}
use Rattle.bank_parts.specs.declared.counting.Records.{Records}
use Rattle.bank_parts.specs.declared.parts.Zone.{Zone}
use Rattle.bank_parts.specs.declared.parts.ZoneOwner.{ZoneOwner}
use Rattle.bank_parts.specs.declared.parts.Parts.{Parts}
use Rattle.bank_parts.specs.Valid.{owner_total, zone_count, gen_count, mod_count}
use Rattle.bank_parts.specs.Bagged.{IsPlainOwner}

-- flat lists can hold these presets or instruments: fewer than 2 ^ 16 records of each kind, and no map has the
-- operator of targets
pub record AreStorable {H : Type 0} (at : Level) (owners : List (ZoneOwner H)) : Type 0 where
  pub zones : owner_total zone_count owners < 2 ^ 16
  pub gens : owner_total gen_count owners < 2 ^ 16
  pub mods : owner_total mod_count owners < 2 ^ 16
  pub plain : AllByRecursion (IsPlainOwner (target_operator at)) owners

-- flat lists can hold the presets and the instruments of the bank
pub record IsStorable (b : Parts) : Type 0 where
  pub presets : AreStorable level.Preset b.presets
  pub instruments : AreStorable level.Inst b.instruments

-- the records of a list of zones
abbrev pub records_of_zones : List Zone → Records
records_of_zones zones =
    record {
      zones =
          length zones;
      gens =
          sum_by (λ (z : Zone). len z.gens + 1) zones;
      mods = sum_by (λ (z : Zone). length z.mods) zones;
    }

-- flat lists with these bags can hold `more` records in addition
pub record CanHold (bags : List (List Bag)) (more : Records) : Type 0 where
  pub zones : length (all_bags bags) + more.zones < 2 ^ 16
  pub gens : length (gens_in (all_bags bags)) + more.gens < 2 ^ 16
  pub mods : length (mods_in (all_bags bags)) + more.mods < 2 ^ 16

-- and memory for them is reserved
pub record HasRoom (s : Stored) (more : Records) : Type 0 where
  pub held : CanHold s.owners more
  pub zones : more.zones ≤ s.spare.bags
  pub gens : more.gens ≤ s.spare.gens
  pub mods : more.mods ≤ s.spare.mods

-- some map of a preset or an instrument has the operator
abbrev pub has_operator : {H : Type 0} → ℕ → ZoneOwner H → Bool
has_operator op x = is_some (get x.global.gens op) || list_any (λ (z : Zone). is_some (get z.gens op)) x.zones
