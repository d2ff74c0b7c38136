-- The lowest and the highest of points, and their heights in a picture.
use Rattle.std.specs.Prelude.{◌≤ℤ◌, ◌-ℤ◌, ◌/◌, ℕ, ℤ, pos, negsuc, List, map, All, unsigned_abs}
use Rattle.std.specs.Int.{w16, cast_signed, int_min, int_max}
use Rattle.std.specs.List.{fold, Contains}
use Rattle.show_sample.specs.declared.extremes.Extremes.{Extremes}

-- points as signed numbers
abbrev pub signed : List ℕ → List ℤ
signed points = map (cast_signed w16) points

-- the lowest and the highest of some points and of more points
abbrev pub widened_by : Extremes → List ℕ → Extremes
widened_by e points = record { low = fold int_min e.low (signed points); high = fold int_max e.high (signed points) }

-- the lowest and the highest of points: the least and the greatest of the signed numbers, 32767 and -32768 if there are
-- none
abbrev pub extremes_of : List ℕ → Extremes
extremes_of points = widened_by (record { low = pos 32767; high = negsuc 32767 }) points

-- both are among the points, and each point is between them
pub record AreExtremes (points : List ℕ) (e : Extremes) : Type 0 where
  pub low : Contains (signed points) e.low
  pub high : Contains (signed points) e.high
  pub above : All (λ z. e.low ≤ℤ z) (signed points)
  pub below : All (λ z. z ≤ℤ e.high) (signed points)

-- the vertical position of a value, from 0 for 32767 to 1023 for -32768
abbrev pub height : ℤ → ℕ
height z = unsigned_abs (pos 32767 -ℤ z) / 64
