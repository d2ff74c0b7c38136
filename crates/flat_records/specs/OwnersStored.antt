-- Owners with their bags, and the spare capacity for more.
use Rattle.std.specs.Prelude.{ℕ, List}
use Rattle.flat_records.specs.Bags.{Bag}
use Rattle.flat_records.specs.Stored.{Counts}

pub record Stored : Type 0 where
  pub owners : List (List Bag)
  pub spare : Counts
  -- So many owners can be inserted without an allocation.
  pub spare_owners : ℕ
