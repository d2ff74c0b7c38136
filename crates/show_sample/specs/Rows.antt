-- The row of a sample: its line of text, and its waveform, 1280 units wide and 256 high. The seams of the loops are below
-- all rows, side by side.
use Rattle.std.specs.Prelude.{ℕ, ◌+◌, ◌*◌, ◌/◌, nat_lt, List, [], ◌∷◌, ◌++◌, length, Option, Some, None, codes}
use Rattle.std.specs.Prelude.{if◌then◌else◌}
use Rattle.bank_parts.specs.declared.parts.Sample.{Sample}
use Rattle.show_zone_map.specs.declared.marks.Mark.{Mark}
use Rattle.show_zone_map.specs.declared.marks.Mark.TheVariants.{Text, Number}
use Rattle.show_zone_map.specs.Marks.{marks_text}
use Rattle.show_sample.specs.declared.facts.Side.{Side}
use Rattle.show_sample.specs.Facts.{facts}
use Rattle.show_sample.specs.Waves.{wave}
use Rattle.show_sample.specs.Seams.{side_count, seam}

-- the top of a row, and of the seams below all rows
abbrev pub top : ℕ → ℕ
top row = 90 + 300 * row

-- the scale beside a waveform: its highest, middle and lowest value
abbrev pub scale_marks : ℕ → List Mark
scale_marks row =
    Text (codes "<text class='end' x='52' y='") ∷ Number (top row) ∷ Text (codes "'>32767</text><text class='end' x='52' y='")
    ∷ Number (top row + 128) ∷ Text (codes "'>0</text><text class='end' x='52' y='")
    ∷ Number (top row + 256) ∷ Text (codes "'>-32768</text>\n")
    ∷ []

-- the lines behind a waveform
abbrev pub wave_marks : ℕ → List Mark
wave_marks row =
    Text (codes "<g transform='translate(60 ") ∷ Number (top row)
    ∷ Text (codes ") scale(1 .25)'><path class='lines' d='M0 0H1280M0 512H1280M0 1024H1280'/>\n<polyline points='")
    ∷ []

-- the horizontal position of a point among n points
abbrev pub position : ℕ → ℕ → ℕ
position n point = point * 1280 / n

abbrev pub end_lines : ℕ → ℕ → List Mark
end_lines start end =
    Text (codes "'/>\n<path class='loop' d='M") ∷ Number start ∷ Text (codes " 0V1024M") ∷ Number end
    ∷ Text (codes " 0V1024'/></g>\n")
    ∷ []

-- lines at the ends of the loop, if there is one
abbrev pub end_marks : ℕ → Option (ℕ × ℕ) → List Mark
end_marks n None = Text (codes "'/></g>\n") ∷ []
end_marks n (Some looped) = end_lines (position n looped.0) (position n looped.1)

-- the lines behind a seam, and a line at the join
abbrev pub join_marks : ℕ → ℕ → ℕ → ℕ → List Mark
join_marks rows row n k =
    Text (codes "<text x='") ∷ Number (60 + 645 * row) ∷ Text (codes "' y='") ∷ Number (82 + 300 * rows)
    ∷ Text (codes "'>sample ") ∷ Number n ∷ Text (codes ": the last and the first points of the loop, ") ∷ Number k
    ∷ Text (codes " of each</text>\n<g transform='translate(") ∷ Number (60 + 645 * row) ∷ Text (codes " ") ∷ Number (top rows)
    ∷ Text (codes ") scale(1 .25)'><path class='lines' d='M0 0H635M0 512H635M0 1024H635'/>\n")
    ∷ Text (codes "<path class='join' d='M317.5 0V1024'/>\n<polyline class='seam' points='")
    ∷ []

-- the seam of the loop, if there is one
abbrev pub seam_text : ℕ → ℕ → ℕ → List ℕ → Option (ℕ × ℕ) → List ℕ
seam_text rows row n points None = []
seam_text rows row n points (Some looped) =
    marks_text (join_marks rows row n (side_count looped)) ++ (seam points looped ++ codes "'/></g>\n")

-- the waveform and the seam of a sample with points
unfoldable pub drawn : ℕ → ℕ → ℕ → List ℕ → Option (ℕ × ℕ) → List ℕ
drawn rows row n points looped =
    marks_text (scale_marks row)
    ++ (marks_text (wave_marks row)
    ++ (wave points 1280
    ++ (marks_text (end_marks (length points) looped) ++ seam_text rows row n points looped)))

-- an empty sample has neither
abbrev pub shapes : ℕ → ℕ → ℕ → List ℕ → Option (ℕ × ℕ) → List ℕ
shapes rows row n points looped = if nat_lt 0 (length points) then drawn rows row n points looped else []

unfoldable pub row_text : ℕ → ℕ → Side → ℕ → Sample → List ℕ
row_text rows row side n s = facts row side n s ++ shapes rows row n s.points s.looped
