-- A waveform: each column is a line from the highest to the lowest of its points, and all are joined.
use Rattle.std.specs.Prelude.{ℕ, ◌*◌, ◌/◌, List, [], ◌∷◌, length, min, codes}
use Rattle.std.specs.List.{flat_map, range_with_len}
use Rattle.show_zone_map.specs.declared.marks.Mark.{Mark}
use Rattle.show_zone_map.specs.declared.marks.Mark.TheVariants.{Text, Number}
use Rattle.show_zone_map.specs.Marks.{marks_text}
use Rattle.show_sample.specs.declared.extremes.Extremes.{Extremes}
use Rattle.show_sample.specs.Extremes.{extremes_of, height}
use Rattle.show_sample.specs.Columns.{column_points}

-- the ends of a column's line
abbrev pub bar_marks : ℕ → Extremes → List Mark
bar_marks x e =
    Number x ∷ Text (codes ",") ∷ Number (height e.high) ∷ Text (codes " ") ∷ Number x ∷ Text (codes ",")
    ∷ Number (height e.low) ∷ Text (codes " ")
    ∷ []

-- column c of `count` columns, in a waveform of this width
abbrev pub bar : List ℕ → ℕ → ℕ → ℕ → List ℕ
bar points width count c = marks_text (bar_marks (c * width / count) (extremes_of (column_points points count c)))

-- as many columns as the waveform is wide, or as there are points if these are fewer
unfoldable pub wave : List ℕ → ℕ → List ℕ
wave points width =
    let count = min (length points) width in flat_map (bar points width count) (range_with_len 0 count)
