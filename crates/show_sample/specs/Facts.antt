-- The line of text above a waveform.
use Rattle.std.specs.Prelude.{ℕ, ◌+◌, ◌-◌, ◌*◌, ◌/◌, ◌%◌, ◌==◌, nat_le, nat_lt, List, [], ◌∷◌, ◌++◌, length, codes}
use Rattle.std.specs.Prelude.{Option, Some, None, if◌then◌else◌}
use Rattle.bank_parts.specs.declared.parts.Sample.{Sample}
use Rattle.show_zone_map.specs.declared.marks.Mark.{Mark}
use Rattle.show_zone_map.specs.declared.marks.Mark.TheVariants.{Text, Number, Name}
use Rattle.show_zone_map.specs.Marks.{marks_text}
use Rattle.show_sample.specs.declared.facts.Side.{Side}
use Rattle.show_sample.specs.declared.facts.Side.TheVariants.{Whole, Left, Right}

-- where the line of a row begins
abbrev pub line_marks : ℕ → List Mark
line_marks row = Text (codes "<text x='60' y='") ∷ Number (82 + 300 * row) ∷ Text (codes "'>") ∷ []

-- ---- the side of a pair, with the sample's number and name

abbrev pub side_line : List ℕ → ℕ → List ℕ → List Mark
side_line side n name = Text side ∷ Number n ∷ Text (codes ": ") ∷ Name name ∷ Text (codes ", ") ∷ []

abbrev pub side_marks : Side → ℕ → List ℕ → List Mark
side_marks Whole n name = []
side_marks Left n name = side_line (codes "left, sample ") n name
side_marks Right n name = side_line (codes "right, sample ") n name

-- ---- the root key

-- the name of a key within its octave
unfoldable pub note_name : ℕ → List ℕ
note_name k =
    if k == 0 then codes "C"
    else if k == 1 then codes "C#"
    else if k == 2 then codes "D"
    else if k == 3 then codes "D#"
    else if k == 4 then codes "E"
    else if k == 5 then codes "F"
    else if k == 6 then codes "F#"
    else if k == 7 then codes "G"
    else if k == 8 then codes "G#"
    else if k == 9 then codes "A"
    else if k == 10 then codes "A#"
    else codes "B"

-- the number of a key's octave: key 60 is C4, and key 0 is C-1
unfoldable pub octave_mark : ℕ → Mark
octave_mark key = if nat_lt key 12 then Text (codes "-1") else Number (key / 12 - 1)

abbrev pub root_key_marks : ℕ → List Mark
root_key_marks key =
    Text (codes "root key ") ∷ Number key ∷ Text (codes " (") ∷ Text (note_name (key % 12)) ∷ octave_mark key
    ∷ Text (codes "), rate ")
    ∷ []

-- a number above 127 means that there is none
abbrev pub key_marks : ℕ → List Mark
key_marks key = if nat_le key 127 then root_key_marks key else Text (codes "no root key, rate ") ∷ []

-- ---- rate, length, number of points, loop

abbrev pub rate_marks : ℕ → List Mark
rate_marks rate = Number rate ∷ Text (codes " Hz, ") ∷ []

-- thousandths of a second, as seconds
abbrev pub seconds_marks : ℕ → List Mark
seconds_marks n =
    Text (codes "length ") ∷ Number (n / 1000) ∷ Text (codes ".") ∷ Number (n / 100 % 10) ∷ Number (n / 10 % 10)
    ∷ Number (n % 10) ∷ Text (codes " s, ")
    ∷ []

-- the length of n points at a rate; none if the rate is 0
abbrev pub length_marks : ℕ → ℕ → List Mark
length_marks n rate = if rate == 0 then [] else seconds_marks (n * 1000 / rate)

abbrev pub count_marks : ℕ → List Mark
count_marks n = Text (codes "points ") ∷ Number n ∷ Text (codes ", ") ∷ []

-- the loop's first point, and the point after its last
abbrev pub loop_ends_marks : ℕ → ℕ → List Mark
loop_ends_marks start end =
    Text (codes "loop ") ∷ Number start ∷ Text (codes " to ") ∷ Number end ∷ Text (codes "</text>\n") ∷ []

abbrev pub loop_marks : Option (ℕ × ℕ) → List Mark
loop_marks None = Text (codes "no loop</text>\n") ∷ []
loop_marks (Some looped) = loop_ends_marks looped.0 looped.1

-- ---- the line

unfoldable pub facts : ℕ → Side → ℕ → Sample → List ℕ
facts row side n s =
    marks_text (line_marks row)
    ++ (marks_text (side_marks side n s.name)
    ++ (marks_text (key_marks s.key)
    ++ (marks_text (rate_marks s.rate)
    ++ (marks_text (length_marks (length s.points) s.rate)
    ++ (marks_text (count_marks (length s.points)) ++ marks_text (loop_marks s.looped))))))
