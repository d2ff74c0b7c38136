-- A generator map stored as the last entries of a list.
use Rattle.std.specs.Prelude.{ℕ, ◌≤◌, List, length, drop}
use Rattle.std.specs.FinMap.{from_sorted}
use Rattle.generators.specs.Gens.{Gens, AreGens}

-- the map of the entries from `start` on
abbrev pub map_from : ℕ → List (ℕ × ℕ) → Gens
map_from start es = from_sorted (drop start es)

-- the entries from `start` on are a map in canonical order, with operators and amounts of 16 bits
pub record EndsInMap (start : ℕ) (es : List (ℕ × ℕ)) : Type 0 where
  pub within : start ≤ length es
  pub own : AreGens (drop start es)
