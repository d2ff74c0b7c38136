-- A slice of the file as a part of a list of points.
use Rattle.std.specs.Prelude.{◌≡◌, ℕ, ◌+◌, ◌-◌, ◌*◌, ◌%◌, ◌<◌, ◌≤◌, List, length, take, drop}
use Rattle.sample_view.specs.Words.{words}

-- The bytes are whole consecutive points of the list, and the point with this index is at this position in them.
pub record IsRunAround (points : List ℕ) (index : ℕ) (bytes : List ℕ) (position : ℕ) : Type 0 where
  pub begins : position ≤ index
  pub inside : 2 * position + 1 < length bytes
  pub even : length bytes % 2 ≡ 0
  pub run : words bytes ≡ take (length (words bytes)) (drop (index - position) points)
