-- A picture of rectangles, as SVG. Keys run from left to right, 10 units each, and velocities from bottom to top, 4
-- units each; key 0 and velocity 127 begin 60 units from the left and from the top.
use Rattle.std.specs.Prelude.{◌≡◌, ◌<◌, ℕ, ◌+◌, ◌-◌, ◌*◌, ◌/◌, ◌%◌, Bool, true, ◌&&◌, ◌||◌, ◌==◌, not, nat_le, nat_lt, List, [], ◌∷◌, ◌++◌, length, map, take}
use Rattle.std.specs.Prelude.{Option, Some, None, codes, unwrap_or, slice_get, if◌then◌else◌}
use Rattle.std.specs.List.{concat, flat_map, filter, list_any, enumerate_from}
use Rattle.std.specs.Option.{option_map_or}
use Rattle.bank_parts.specs.declared.parts.Head.{Head}
use Rattle.bank_parts.specs.declared.parts.Kind.{Kind}
use Rattle.bank_parts.specs.declared.parts.Kind.TheVariants.{Mono, Right, Left, Linked}
use Rattle.bank_parts.specs.declared.parts.Sample.{Sample}
use Rattle.bank_parts.specs.declared.parts.Parts.{Parts}
use Rattle.bank_changes.specs.declared.members.Owner.{Owner}
use Rattle.bank_changes.specs.declared.members.Owner.TheVariants as owner
use Rattle.bank_changes.specs.Members.{head_of, instrument_name_of}
use Rattle.generators.specs.declared.range.Range.{Range}
use Rattle.show_zone_map.specs.declared.marks.Mark.{Mark}
use Rattle.show_zone_map.specs.declared.marks.Mark.TheVariants.{Text, Number, Name}
use Rattle.show_zone_map.specs.declared.rectangle.Rectangle.{Rectangle}
use Rattle.show_zone_map.specs.Marks.{marks_text}
use Rattle.show_zone_map.specs.Rectangles.{has_notes, rectangles}

-- ---- the parts of all pictures

-- the height of a picture, by the number of entries of its legend
abbrev pub picture_height : ℕ → ℕ
picture_height entries = 640 + 16 * ((entries + 7) / 8)

-- the size of the picture
abbrev pub size_marks : ℕ → List Mark
size_marks entries =
    Text (codes "<svg xmlns='http://www.w3.org/2000/svg' viewBox='0 0 1400 ") ∷ Number (picture_height entries)
    ∷ Text (codes "' font-family='sans-serif' font-size='11'>\n")
    ∷ []

-- colours that colour-blind readers can distinguish on white and on black, and the start of the owner's line
unfoldable pub head : List ℕ
head = concat (
    codes "<style>\n"
    ∷ codes ":root{color:#111;background:#fff}\n"
    ∷ codes "text{fill:currentColor}\n"
    ∷ codes ".owner{font-size:20px}\n"
    ∷ codes ".end{text-anchor:end;dominant-baseline:central}\n"
    ∷ codes ".lines{stroke:currentColor;stroke-opacity:.15}\n"
    ∷ codes "g rect{fill:currentColor;fill-opacity:.3;stroke:currentColor;stroke-width:2}\n"
    ∷ codes "g circle{fill:currentColor;stroke:#111}\n"
    ∷ codes "g text{fill:#111;font-size:9px;text-anchor:middle;dominant-baseline:central}\n"
    ∷ codes "g:hover rect{fill-opacity:.7}\n"
    ∷ codes ".c0{color:#e69f00}.c1{color:#56b4e9}.c2{color:#009e73}.c3{color:#f0e442}\n"
    ∷ codes ".c4{color:#0072b2}.c5{color:#d55e00}.c6{color:#cc79a7}\n"
    ∷ codes "@media (prefers-color-scheme:dark){:root{color:#eee;background:#161616}g text{fill:#eee}}\n"
    ∷ codes "</style>\n"
    ∷ codes "<text class='owner' x='60' y='36'>"
    ∷ [])

-- grid lines at octaves and velocities with their numbers, and a keyboard, on which key 60 is C4
unfoldable pub frame : List ℕ
frame = concat (
    codes "<path class='lines' d='M60 60H1340M60 188H1340M60 316H1340M60 444H1340M60 572H1340'/>\n"
    ∷ codes "<path class='lines' d='M60 60V572M180 60V572M300 60V572M420 60V572M540 60V572M660 60V572'/>\n"
    ∷ codes "<path class='lines' d='M780 60V572M900 60V572M1020 60V572M1140 60V572M1260 60V572M1340 60V572'/>\n"
    ∷ codes "<text class='end' x='52' y='62'>127</text><text class='end' x='52' y='186'>96</text>\n"
    ∷ codes "<text class='end' x='52' y='314'>64</text><text class='end' x='52' y='442'>32</text>\n"
    ∷ codes "<text class='end' x='52' y='570'>0</text>\n"
    ∷ codes "<pattern id='octave' x='60' y='572' width='120' height='40' patternUnits='userSpaceOnUse'>\n"
    ∷ codes "<path fill='#fff' d='M0 0H120V40H0z'/>\n"
    ∷ codes "<path stroke='#888' d='M15 26V40M35 26V40M50 0V40M65 26V40M85 26V40M105 26V40M120 0V40M0 40H120'/>\n"
    ∷ codes
    "<path fill='#333' d='M10 0h10v26h-10zM30 0h10v26h-10zM60 0h10v26h-10zM80 0h10v26h-10zM100 0h10v26h-10z'/>\n"
    ∷ codes "</pattern><path fill='url(#octave)' d='M60 572H1340V612H60z'/>\n"
    ∷ codes "<text x='62' y='628'>C-1</text><text x='182' y='628'>C0</text><text x='302' y='628'>C1</text>\n"
    ∷ codes "<text x='422' y='628'>C2</text><text x='542' y='628'>C3</text><text x='662' y='628'>C4</text>\n"
    ∷ codes "<text x='782' y='628'>C5</text><text x='902' y='628'>C6</text><text x='1022' y='628'>C7</text>\n"
    ∷ codes "<text x='1142' y='628'>C8</text><text x='1262' y='628'>C9</text>\n"
    ∷ [])

-- ---- the owner

abbrev pub owner_line : List ℕ → ℕ → List ℕ → List Mark
owner_line level n name = Text level ∷ Number n ∷ Text (codes ": ") ∷ Name name ∷ Text (codes "</text>\n") ∷ []

-- the owner's number and name
abbrev pub owner_marks : Parts → Owner → List Mark
owner_marks b (owner.Preset p) = owner_line (codes "preset ") p (option_map_or (λ (h : Head). h.name) (head_of b p) [])
owner_marks b (owner.Inst i) = owner_line (codes "instrument ") i (unwrap_or (instrument_name_of b i) [])

-- ---- a rectangle

-- the number of values in a range
abbrev pub count : Range → ℕ
count r = r.high + 1 - r.low

-- the position and size of a rectangle
abbrev pub left : Rectangle → ℕ
left r = 60 + 10 * r.area.keys.low

abbrev pub top : Rectangle → ℕ
top r = 60 + 4 * (127 - r.area.velocities.high)

abbrev pub width : Rectangle → ℕ
width r = 10 * count r.area.keys

abbrev pub height : Rectangle → ℕ
height r = 4 * count r.area.velocities

-- the index of one of seven colours, by the number of a sample
abbrev pub colour : ℕ → ℕ
colour s = s % 7

-- the name and the kind of a sample
abbrev pub name_of : Parts → ℕ → List ℕ
name_of b s = option_map_or (λ (x : Sample). x.name) (slice_get b.samples s) []

abbrev pub kind_of : Parts → ℕ → Kind
kind_of b s = option_map_or (λ (x : Sample). x.kind) (slice_get b.samples s) Mono

-- the start of a rectangle: its colour, and its tooltip with the sample's name and number
unfoldable pub title_marks : List ℕ → Rectangle → List Mark
title_marks name r =
    Text (codes "<g class='c") ∷ Number (colour r.sample) ∷ Text (codes "'><title>") ∷ Name name
    ∷ Text (codes "\nsample ") ∷ Number r.sample
    ∷ []

-- the zone of the preset, if there is one
abbrev pub preset_zone_marks : Option ℕ → List Mark
preset_zone_marks None = []
preset_zone_marks (Some k) = Text (codes "\npreset zone ") ∷ Number k ∷ []

unfoldable pub range_marks : Rectangle → List Mark
range_marks r =
    Text (codes "\ninstrument zone ") ∷ Number r.zone
    ∷ Text (codes "\nkeys ") ∷ Number r.area.keys.low ∷ Text (codes " to ") ∷ Number r.area.keys.high
    ∷ Text (codes "\nvelocities ") ∷ Number r.area.velocities.low ∷ Text (codes " to ") ∷ Number r.area.velocities.high
    ∷ Text (codes "\nroot key ") ∷ Number r.root
    ∷ []

unfoldable pub box_marks : Rectangle → List Mark
box_marks r =
    Text (codes "</title><svg x='") ∷ Number (left r) ∷ Text (codes "' y='") ∷ Number (top r)
    ∷ Text (codes "' width='") ∷ Number (width r) ∷ Text (codes "' height='") ∷ Number (height r)
    ∷ Text (codes "'><rect width='100%' height='100%'/>")
    ∷ []

-- the vertical position of a label in the upper half (0) or the lower half (1): on one of two lines in all
abbrev pub line_of_two : ℕ → Rectangle → ℕ
line_of_two half r = height r * (1 + 2 * half) / 4

-- on one of four lines in all; the zones choose one of the two lines of the half
abbrev pub line_of_four : ℕ → Rectangle → ℕ
line_of_four half r = height r * (1 + (2 * half + (unwrap_or r.preset_zone 0 % 2 + (r.zone / 2) % 2) % 2)) / 5

-- on one of two lines if four have no space
abbrev pub side_line : ℕ → Rectangle → ℕ
side_line half r = if nat_lt (height r) 80 then line_of_two half r else line_of_four half r

-- the vertical position of a label, by the kind of its sample: a left sample's is in the upper half, and a right
-- sample's in the lower half, since their rectangles overlap; the zone's number chooses the half for others
abbrev pub label_line : Kind → Rectangle → ℕ
label_line Mono r = line_of_four (r.zone % 2) r
label_line (Right link) r = side_line 1 r
label_line (Left link) r = side_line 0 r
label_line (Linked link) r = line_of_four (r.zone % 2) r

-- in rectangles of the same area, the label of a left sample is above that of a right sample
abbrev pub LeftIsAbove : Type 0
LeftIsAbove = (x y : Rectangle) (s t : ℕ) → has_notes x.area ≡ true → x.area ≡ y.area
    → label_line (Left s) x < label_line (Right t) y

-- a label on a line of a rectangle
abbrev pub horizontal_marks : Mark → ℕ → List Mark
horizontal_marks label line =
    Text (codes "<text x='50%' y='") ∷ Number line ∷ Text (codes "'>") ∷ label ∷ Text (codes "</text>") ∷ []

abbrev pub vertical_marks : Mark → ℕ → Rectangle → List Mark
vertical_marks label line r =
    Text (codes "<text transform='translate(") ∷ Number (width r / 2) ∷ Text (codes " ") ∷ Number line
    ∷ Text (codes ") rotate(-90)'>")
    ∷ label ∷ Text (codes "</text>")
    ∷ []

-- a name has space in it, horizontally or vertically
abbrev pub is_wide : Rectangle → Bool
is_wide r = nat_le 120 (width r) && nat_le 24 (height r)

abbrev pub is_high : Rectangle → Bool
is_high r = nat_le 160 (height r)

-- a name has no space in it
abbrev pub is_small : Rectangle → Bool
is_small r = not (is_wide r || is_high r)

-- a number is horizontal if it has space, or if the rectangle isn't higher than wide
abbrev pub has_horizontal_number : Rectangle → Bool
has_horizontal_number r = nat_le 20 (width r) || nat_le (height r) (width r)

-- the number of its sample
abbrev pub number_marks : ℕ → Rectangle → List Mark
number_marks line r =
    if has_horizontal_number r then horizontal_marks (Number r.sample) line
    else vertical_marks (Number r.sample) line r

-- the name of its sample if it has space, else the sample's number, which the legend explains
unfoldable pub label_marks : List ℕ → ℕ → Rectangle → List Mark
label_marks name line r =
    if is_wide r then horizontal_marks (Name name) line
    else if is_high r then vertical_marks (Name name) line r
    else number_marks line r

-- a dot on the root key, in the rectangle's colour
unfoldable pub root_marks : Rectangle → List Mark
root_marks r =
    Text (codes "</svg><circle cx='") ∷ Number (65 + 10 * r.root) ∷ Text (codes "' cy='") ∷ Number (577 + 5 * colour r.sample)
    ∷ Text (codes "' r='3'/></g>\n")
    ∷ []

unfoldable pub drawn : Parts → Rectangle → List ℕ
drawn b r =
    marks_text (title_marks (name_of b r.sample) r)
    ++ (marks_text (preset_zone_marks r.preset_zone)
    ++ (marks_text (range_marks r)
    ++ (marks_text (box_marks r)
    ++ (marks_text (label_marks (name_of b r.sample) (label_line (kind_of b r.sample) r) r)
    ++ marks_text (root_marks r)))))

-- ---- the legend

-- numbers without repetitions: the first, and then the others
unfoldable pub distinct : List ℕ → List ℕ
distinct [] = []
distinct (s ∷ ss) = s ∷ filter (λ t. not (t == s)) (distinct ss)

-- the samples of the rectangles without space for a name
abbrev pub small_samples : List Rectangle → List ℕ
small_samples rs = map (λ (r : Rectangle). r.sample) (filter is_small rs)

-- the samples that the legend of rectangles names, each once, in order of first appearance: the first 1,024
abbrev pub legend_samples : List Rectangle → List ℕ
legend_samples rs = take 1024 (distinct (small_samples rs))

-- a dot in the sample's colour, its number and its name; eight entries are on a line
abbrev pub entry_marks : List ℕ → ℕ → ℕ → List Mark
entry_marks name i s =
    Text (codes "<g class='c") ∷ Number (colour s) ∷ Text (codes "'><circle cx='") ∷ Number (64 + 160 * (i % 8))
    ∷ Text (codes "' cy='") ∷ Number (648 + 16 * (i / 8)) ∷ Text (codes "' r='3'/></g><text x='")
    ∷ Number (72 + 160 * (i % 8)) ∷ Text (codes "' y='") ∷ Number (652 + 16 * (i / 8)) ∷ Text (codes "'>")
    ∷ Number s ∷ Text (codes " ") ∷ Name name ∷ Text (codes "</text>\n")
    ∷ []

-- the entry of a sample, after its number
abbrev pub entry : Parts → ℕ × ℕ → List ℕ
entry b e = marks_text (entry_marks (name_of b e.1) e.0 e.1)

abbrev pub legend_text : Parts → List ℕ → List ℕ
legend_text b ss = flat_map (entry b) (enumerate_from 0 ss)

-- ---- a legend while rectangles are added

-- a sample is not one of ss
abbrev pub is_new : List ℕ → ℕ → Bool
is_new ss s = not (list_any (λ t. s == t) ss)

-- the samples of a legend that names ss, after more samples: those that are new follow
abbrev pub with_samples : List ℕ → List ℕ → List ℕ
with_samples ss more = take 1024 (ss ++ filter (is_new ss) (distinct more))

-- ---- the picture

unfoldable pub picture : Parts → Owner → List ℕ
picture b o =
    marks_text (size_marks (length (legend_samples (rectangles b o))))
    ++ (head
    ++ (marks_text (owner_marks b o)
    ++ (frame
    ++ (flat_map (drawn b) (rectangles b o)
    ++ (legend_text b (legend_samples (rectangles b o))
    ++ codes "</svg>\n")))))
