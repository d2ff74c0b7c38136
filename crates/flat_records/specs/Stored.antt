-- Bags, and the spare capacity for more.
use Rattle.std.specs.Prelude.{◌≡◌, ◌≤◌, ◌+◌, ℕ, List, length}
use Rattle.flat_records.specs.Bags.{Bag}

-- Numbers of records of each type. As spare capacity: as many can be inserted without an allocation.
pub record Counts : Type 0 where
  pub bags : ℕ
  pub gens : ℕ
  pub mods : ℕ

abbrev pub no_records : Counts
no_records = record { bags = 0; gens = 0; mods = 0 }

-- The numbers of records of one bag.
abbrev pub counts_of : Bag → Counts
counts_of b = record { bags = 1; gens = length b.gens; mods = length b.mods }

-- The spare capacity falls by at most what is used.
pub record Uses (old new used : Counts) : Type 0 where
  pub bags : old.bags ≤ new.bags + used.bags
  pub gens : old.gens ≤ new.gens + used.gens
  pub mods : old.mods ≤ new.mods + used.mods

-- The spare capacity grows by what is freed.
pub record Frees (old new freed : Counts) : Type 0 where
  pub bags : new.bags ≡ old.bags + freed.bags
  pub gens : new.gens ≡ old.gens + freed.gens
  pub mods : new.mods ≡ old.mods + freed.mods

pub record Stored : Type 0 where
  pub bags : List Bag
  pub spare : Counts
