-- Which records are those of a list of bags, in terms of the records themselves.
use Rattle.std.specs.Prelude.{◌≡◌, ◌≤◌, ◌<◌, ◌+◌, ◌-◌, ℕ, List, length, slice_get, slice_index_or, Some}
use Rattle.flat_records.specs.Bags.{Tables, no_modulator}

-- Neither index is less than the one before.
abbrev pub Rises : List (ℕ × ℕ) → ℕ → Type 0
Rises bags k =
    ((slice_index_or bags k (0, 0)).0 ≤ (slice_index_or bags (k + 1) (0, 0)).0)
    × ((slice_index_or bags k (0, 0)).1 ≤ (slice_index_or bags (k + 1) (0, 0)).1)

-- The last member of a list.
abbrev pub EndsIn : {X : Type 0} → List X → X → Type 0
EndsIn xs x = slice_get xs (length xs - 1) ≡ Some x

-- The indexes begin at 0 and never fall, up to the numbers of records, and each list has its terminal.
pub record AreTables (t : Tables) : Type 0 where
  pub first : slice_get t.bags 0 ≡ Some (0, 0)
  pub rising : (k : ℕ) → k + 1 < length t.bags → Rises t.bags k
  pub last : EndsIn t.bags (length t.gens - 1, length t.mods - 1)
  pub gens : EndsIn t.gens (0, 0)
  pub mods : EndsIn t.mods no_modulator
