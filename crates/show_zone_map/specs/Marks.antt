-- The text of a picture, piece by piece.
use Rattle.std.specs.Prelude.{ℕ, List, [], ◌∷◌, ◌==◌, ◌&&◌, nat_le, decimal, codes, if◌then◌else◌}
use Rattle.std.specs.List.{flat_map}
use Rattle.show_zone_map.specs.declared.marks.Mark.{Mark}
use Rattle.show_zone_map.specs.declared.marks.Mark.TheVariants.{Text, Number, Name}

-- a byte of a name as XML text: `&`, `<` and `>` as entities, and bytes other than printable ASCII as the replacement
-- character
unfoldable pub shown : ℕ → List ℕ
shown b =
    if b == 38 then codes "&amp;"
    else if b == 60 then codes "&lt;"
    else if b == 62 then codes "&gt;"
    else if nat_le 32 b && nat_le b 126 then b ∷ []
    else codes "&#65533;"

unfoldable pub mark_text : Mark → List ℕ
mark_text (Text bytes) = bytes
mark_text (Number n) = decimal n
mark_text (Name bytes) = flat_map shown bytes

abbrev pub marks_text : List Mark → List ℕ
marks_text marks = flat_map mark_text marks
