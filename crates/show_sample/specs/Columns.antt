-- The points that each column of a waveform stands for.
use Rattle.std.specs.Prelude.{◌≡◌, ◌<◌, ◌≤◌, ◌+◌, ◌*◌, ◌/◌, ℕ, List, length, slice_range}
use Rattle.std.specs.List.{flat_map, range_with_len}

-- the index of the first of n points that column c of `width` columns stands for
abbrev pub column_start : ℕ → ℕ → ℕ → ℕ
column_start n width c = c * n / width

-- the points from the start of column c up to the start of the next one
abbrev pub column_points : List ℕ → ℕ → ℕ → List ℕ
column_points points width c =
    slice_range points (column_start (length points) width c) (column_start (length points) width (c + 1))

-- the points of all columns, concatenated, are all points: each point is in exactly one column
abbrev pub ColumnsCoverPoints : Type 0
ColumnsCoverPoints = (points : List ℕ) (width : ℕ) → 0 < width
    → flat_map (column_points points width) (range_with_len 0 width) ≡ points

-- no column is empty if there are as many points as columns
abbrev pub ColumnsHavePoints : Type 0
ColumnsHavePoints = (points : List ℕ) (width c : ℕ) → width ≤ length points → c < width
    → 0 < length (column_points points width c)
