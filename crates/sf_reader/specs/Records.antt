-- The flat lists of records of one level, while they are built.
use Rattle.std.specs.Prelude.{◌≡◌, ℕ, List, [], ◌∷◌, ◌++◌, length}
use Rattle.modulators.specs.declared.modulator.Modulator.{Modulator}
use Rattle.sf_reader.specs.declared.records.RecordsSoFar.{RecordsSoFar}
use Rattle.flat_records.specs.Runs.{starts}
use Rattle.flat_records.specs.Bags.{Bag, past_bag, gens_in, mods_in}

-- the lists have the records of these bags; generators and modulators have no terminals yet
pub record AreSoFar (r : RecordsSoFar) (all : List Bag) : Type 0 where
  pub bags : r.bags.items ≡ starts past_bag (0, 0) all
  pub gens : r.gens.items ≡ gens_in all
  pub mods : r.mods.items ≡ mods_in all

-- the records of these bags are appended
abbrev pub Appends : RecordsSoFar → RecordsSoFar → List Bag → Type 0
Appends old new more = (all : List Bag) → AreSoFar old all → AreSoFar new (all ++ more)

-- only the generators of another bag are appended
pub record HoldsGens (before now : RecordsSoFar) (gens : List (ℕ × ℕ)) : Type 0 where
  pub bags_stay : now.bags.items ≡ before.bags.items
  pub mods_stay : now.mods.items ≡ before.mods.items
  pub gens_grow : now.gens.items ≡ before.gens.items ++ gens

-- that bag is completed with more generators and its modulators
pub record EndsBag (old new : RecordsSoFar) (gens : List (ℕ × ℕ)) (mods : List Modulator) : Type 0 where
  pub gens_grow : new.gens.items ≡ old.gens.items ++ gens
  pub mods_grow : new.mods.items ≡ old.mods.items ++ mods
  pub bags_grow : new.bags.items ≡ old.bags.items ++ (length new.gens.items, length new.mods.items) ∷ []
