-- The waveform of a sample: in hexadecimal digits two bytes for each column, the heights of its highest and of its
-- lowest point.
use Rattle.std.specs.Prelude.{ℕ, ℤ, List, ◌++◌, ◌/◌, length, min}
use Rattle.std.specs.List.{flat_map, range_with_len}
use Rattle.show_sample.specs.declared.extremes.Extremes.{Extremes}
use Rattle.show_sample.specs.Extremes.{extremes_of, height}
use Rattle.show_sample.specs.Columns.{column_points}
use Rattle.show_page.specs.Json.{two_digits}

-- how many columns there are: 128, or as many as points
abbrev pub column_count : List ℕ → ℕ
column_count points = min 128 (length points)

-- the height of a value, from 0 for the highest to 255 for the lowest
abbrev pub height_text : ℤ → List ℕ
height_text z = two_digits (height z / 4)

abbrev pub ends_text : Extremes → List ℕ
ends_text e = height_text e.high ++ height_text e.low

abbrev pub column : List ℕ → ℕ → List ℕ
column points c = ends_text (extremes_of (column_points points (column_count points) c))

unfoldable pub columns : List ℕ → List ℕ
columns points = flat_map (column points) (range_with_len 0 (column_count points))
