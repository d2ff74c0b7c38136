-- The seam of a loop, enlarged: the last points of the loop, joined to its first ones.
use Rattle.std.specs.Prelude.{ℕ, ◌+◌, ◌-◌, ◌*◌, List, [], ◌∷◌, ◌++◌, min, codes, slice_index, slice_range}
use Rattle.std.specs.List.{flat_map, range_with_len}
use Rattle.std.specs.Int.{w16, cast_signed}
use Rattle.show_zone_map.specs.declared.marks.Mark.{Mark}
use Rattle.show_zone_map.specs.declared.marks.Mark.TheVariants.{Text, Number}
use Rattle.show_zone_map.specs.Marks.{marks_text}
use Rattle.show_sample.specs.Extremes.{height}

-- how many points are shown on each side of the seam: 64, or all of a shorter loop
abbrev pub side_count : ℕ × ℕ → ℕ
side_count looped = min 64 (looped.1 - looped.0)

-- the last points of the loop, and its first ones
abbrev pub seam_points : List ℕ → ℕ × ℕ → List ℕ
seam_points points looped =
    let k = side_count looped in
    slice_range points (looped.1 - k) looped.1 ++ slice_range points looped.0 (looped.0 + k)

abbrev pub dot_marks : ℕ → ℕ → List Mark
dot_marks x y = Number x ∷ Text (codes ",") ∷ Number y ∷ Text (codes " ") ∷ []

-- point i of the seam; they are 5 units apart, and the join is in the middle of 128 of them
abbrev pub dot : List ℕ → ℕ × ℕ → ℕ → List ℕ
dot points looped i =
    marks_text (dot_marks (5 * (64 - side_count looped + i))
    (height (cast_signed w16 (slice_index (seam_points points looped) i))))

unfoldable pub seam : List ℕ → ℕ × ℕ → List ℕ
seam points looped = flat_map (dot points looped) (range_with_len 0 (2 * side_count looped))
