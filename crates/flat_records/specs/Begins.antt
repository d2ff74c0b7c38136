-- Which flat lists are those of owners with their bags.
use Rattle.std.specs.Prelude.{◌≡◌, ◌≤◌, ◌<◌, ◌+◌, ◌-◌, ℕ, List, length, slice_get, slice_index_or, Some}
use Rattle.flat_records.specs.Bags.{Bag, Tables, tables_of}
use Rattle.flat_records.specs.Owned.{all_bags, flat_of}

-- The starts and the records are those of these owners.
pub record AreFlat (places : List ℕ) (t : Tables) (owners : List (List Bag)) : Type 0 where
  pub begins : places ≡ (flat_of owners).begins
  pub records : t ≡ tables_of (all_bags owners)

-- ---- in terms of the starts themselves

-- A start is not less than the one before.
abbrev pub Rises : List ℕ → ℕ → Type 0
Rises places k = slice_index_or places k 0 ≤ slice_index_or places (k + 1) 0

abbrev pub EndsAt : List ℕ → ℕ → Type 0
EndsAt places count = slice_get places (length places - 1) ≡ Some count

-- The starts begin at 0 and never fall, up to the number of bags.
pub record AreBegins (places : List ℕ) (count : ℕ) : Type 0 where
  pub first : slice_get places 0 ≡ Some 0
  pub rising : (k : ℕ) → k + 1 < length places → Rises places k
  pub last : EndsAt places count
