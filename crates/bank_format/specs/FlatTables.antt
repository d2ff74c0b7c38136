-- The tables of a bank are the flat lists of its presets and instruments, record by record.
use Rattle.std.specs.Prelude.{◌≡◌, ℕ, List, [], ◌∷◌, map}
use Rattle.modulators.specs.declared.modulator.Modulator.{Modulator}
use Rattle.hydra_records.specs.declared.zone.Bag.{Bag}
use Rattle.hydra_records.specs.declared.zone.Generator.{Generator}
use Rattle.bank_parts.specs.declared.parts.ZoneOwner.{ZoneOwner}
use Rattle.bank_parts.specs.declared.parts.Parts.{Parts}
use Rattle.bank_parts.specs.FlatLists.{FlatLists, lists_of}
use Rattle.bank_format.specs.Zones.{generator}
use Rattle.bank_format.specs.Tables.{Headers, bag, presets, instruments, tables_of}

-- a header for each owner, with the index of its first bag, and the terminal, with the number of all bags
abbrev pub headers_of : {H R : Type 0} → Headers H R → List (ZoneOwner H) → List ℕ → List R
headers_of h owners [] = []
headers_of h [] (at ∷ first_bags) = h.last at ∷ []
headers_of h (x ∷ owners) (at ∷ first_bags) = h.written at x.head ∷ headers_of h owners first_bags

abbrev pub bag_of : ℕ × ℕ → Bag
bag_of at = bag at.0 at.1

abbrev pub generator_of : ℕ × ℕ → Generator
generator_of e = generator e.0 e.1

-- the four tables of presets, or of instruments, are these flat lists
pub record AreOfLists {H R : Type 0} (h : Headers H R) (owners : List (ZoneOwner H)) (l : FlatLists) (heads : List R)
    (bags : List Bag) (mods : List Modulator) (gens : List Generator) : Type 0 where
  pub heads_are : heads ≡ headers_of h owners l.first_bags
  pub bags_are : bags ≡ map bag_of l.bags
  pub mods_are : mods ≡ l.mods
  pub gens_are : gens ≡ map generator_of l.gens

pub record TablesAreFlat (b : Parts) : Type 0 where
  pub of_presets : let t =
      tables_of b in AreOfLists presets b.presets (lists_of presets.level b.presets) t.phdr t.pbag t.pmod t.pgen
  pub of_instruments : let t =
      tables_of b in AreOfLists instruments b.instruments (lists_of instruments.level b.instruments) t.inst t.ibag
      t.imod t.igen
