-- A picture of a sample, as SVG.
use Rattle.std.specs.Prelude.{ℕ, ◌+◌, ◌*◌, List, [], ◌∷◌, ◌++◌, Option, Some, None, codes, slice_get}
use Rattle.std.specs.List.{concat}
use Rattle.std.specs.Option.{option_map_or}
use Rattle.bank_parts.specs.declared.parts.Sample.{Sample}
use Rattle.bank_parts.specs.declared.parts.Parts.{Parts}
use Rattle.show_zone_map.specs.declared.marks.Mark.{Mark}
use Rattle.show_zone_map.specs.declared.marks.Mark.TheVariants.{Text, Number, Name}
use Rattle.show_zone_map.specs.Marks.{marks_text}
use Rattle.show_sample.specs.declared.facts.Side.{Side}
use Rattle.show_sample.specs.declared.facts.Side.TheVariants.{Whole, Left, Right}
use Rattle.show_sample.specs.Pairs.{sides_of}
use Rattle.show_sample.specs.Rows.{row_text}

-- ---- the head

-- the size, by the number of rows
abbrev pub size_marks : ℕ → List Mark
size_marks rows =
    Text (codes "<svg xmlns='http://www.w3.org/2000/svg' viewBox='0 0 1400 ") ∷ Number (380 + 300 * rows)
    ∷ Text (codes "' font-family='sans-serif' font-size='11'>\n")
    ∷ []

-- colours that colour-blind readers can distinguish on white and on black
unfoldable pub style : List ℕ
style = concat (
    codes "<style>\n"
    ∷ codes ":root{color:#111;background:#fff}\n"
    ∷ codes "text{fill:currentColor}\n"
    ∷ codes ".owner{font-size:20px}\n"
    ∷ codes ".end{text-anchor:end;dominant-baseline:central}\n"
    ∷ codes ".lines{stroke:currentColor;stroke-opacity:.15}\n"
    ∷ codes "path,polyline{fill:none;vector-effect:non-scaling-stroke}\n"
    ∷ codes "polyline{stroke:#0072b2;stroke-linejoin:round;stroke-linecap:round}\n"
    ∷ codes ".loop{stroke:#d55e00;stroke-width:2}\n"
    ∷ codes ".join{stroke:#d55e00}\n"
    ∷ codes ".seam{stroke-width:2}\n"
    ∷ codes "@media (prefers-color-scheme:dark){:root{color:#eee;background:#161616}polyline{stroke:#56b4e9}}\n"
    ∷ codes "</style>\n"
    ∷ [])

-- the number and the name of the sample
abbrev pub title_marks : ℕ → List ℕ → List Mark
title_marks n name =
    Text (codes "<text class='owner' x='60' y='36'>sample ") ∷ Number n ∷ Text (codes ": ") ∷ Name name
    ∷ Text (codes "</text>\n")
    ∷ []

-- ---- the picture

abbrev pub name_of : Parts → ℕ → List ℕ
name_of b n = option_map_or (λ (s : Sample). s.name) (slice_get b.samples n) []

-- the row of sample n; nothing if there is no such sample
abbrev pub row_of : Parts → ℕ → ℕ → Side → ℕ → List ℕ
row_of b rows row side n = option_map_or (λ (s : Sample). row_text rows row side n s) (slice_get b.samples n) []

-- the start of the picture of sample n
unfoldable pub head : Parts → ℕ → ℕ → List ℕ
head b n rows = marks_text (size_marks rows) ++ (style ++ marks_text (title_marks n (name_of b n)))

-- one row, or those of a left and a right sample
abbrev pub rows_text : Parts → ℕ → Option (ℕ × ℕ) → List ℕ
rows_text b n None = head b n 1 ++ (row_of b 1 0 Whole n ++ codes "</svg>\n")
rows_text b n (Some sides) =
    head b n 2 ++ (row_of b 2 0 Left sides.0 ++ (row_of b 2 1 Right sides.1 ++ codes "</svg>\n"))

-- the picture of sample n
abbrev pub sample_picture : Parts → ℕ → List ℕ
sample_picture b n = rows_text b n (sides_of b.samples n)
