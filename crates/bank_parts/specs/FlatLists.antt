-- The flat lists of presets, or of instruments, in a file.
use Rattle.std.specs.Prelude.{◌≡◌, ℕ, List, map}
use Rattle.generators.specs.Levels.{target_operator}
use Rattle.generators.specs.declared.level.Level.{Level}
use Rattle.generators.specs.declared.level.Level.TheVariants as level
use Rattle.modulators.specs.declared.modulator.Modulator.{Modulator}
use Rattle.flat_records.specs.Bags.{Bag, Tables, tables_of, bags_in}
use Rattle.flat_records.specs.Owned as owned
use Rattle.bank_parts.specs.declared.parts.ZoneOwner.{ZoneOwner}
use Rattle.bank_parts.specs.declared.parts.Parts.{Parts}
use Rattle.bank_parts.specs.Bagged.{bags_of}
use Rattle.bank_parts.specs.Flat.{owners_in}

pub record FlatLists : Type 0 where
  -- the index of each owner's first bag, and last the number of bags
  pub first_bags : List ℕ
  -- the indexes of each bag's first generator and modulator, and last the numbers of these
  pub bags : List (ℕ × ℕ)
  -- generators as operator and amount, the target last in each zone, then the terminal
  pub gens : List (ℕ × ℕ)
  pub mods : List Modulator

-- the flat lists of these bags, given for each owner
abbrev pub lists_of_bags : List (List Bag) → FlatLists
lists_of_bags owners = record {
  first_bags = (owned.flat_of owners).begins;
  bags = (tables_of (owned.all_bags owners)).bags;
  gens = (tables_of (owned.all_bags owners)).gens;
  mods = (tables_of (owned.all_bags owners)).mods;
}

-- the flat lists of these presets or instruments
abbrev pub lists_of : {H : Type 0} → Level → List (ZoneOwner H) → FlatLists
lists_of at owners = lists_of_bags (map (bags_of (target_operator at)) owners)

-- the index of each owner's first bag, and the records
abbrev pub lists_with : List ℕ → Tables → FlatLists
lists_with first_bags t = record { first_bags = first_bags; bags = t.bags; gens = t.gens; mods = t.mods }

-- the presets or instruments with these heads and flat lists
abbrev pub owners_read : {H : Type 0} → Level → List H → List ℕ → Tables → List (ZoneOwner H)
owners_read at hs first_bags t =
    owners_in (target_operator at) hs (owned.owners_in (record { begins = first_bags; bags = bags_in t }))

-- these are the heads and the flat lists of these presets or instruments
pub record AreFlat {H : Type 0} (at : Level) (hs : List H) (lists : FlatLists) (owners : List (ZoneOwner H)) : Type 0
  where
    pub heads : hs ≡ map (λ x. x.head) owners
    pub flat : lists ≡ lists_of at owners

-- the flat lists of a bank's presets, or of its instruments
abbrev pub flat_of : Level → Parts → FlatLists
flat_of level.Preset b = lists_of level.Preset b.presets
flat_of level.Inst b = lists_of level.Inst b.instruments
