-- What the table has of a generator.
use Rattle.std.specs.Prelude.{ℕ, ℤ, List, ◌++◌, ◌-◌, ◌==◌, ◌&&◌, length, take, if◌then◌else◌, codes, pos, negsuc, Bool, false}
use Rattle.std.specs.Fmt.{signed_decimal}
use Rattle.std.specs.List.{suffix_len}
use Rattle.std.specs.Char.{is_ascii_whitespace}
use Rattle.generator_rows.specs.declared.row.Unit.{Unit}
use Rattle.generator_rows.specs.declared.row.Unit.TheVariants as units

-- the name of each unit
abbrev pub unit_name : Unit → List ℕ
unit_name units.Points = codes "points"
unit_name units.PointBlocks = codes "32,768 points"
unit_name units.Cents = codes "cents"
unit_name units.AbsoluteCents = codes "absolute cents"
unit_name units.CentsPerKey = codes "cents a key"
unit_name units.Semitones = codes "semitones"
unit_name units.Centibels = codes "centibels"
unit_name units.Timecents = codes "timecents"
unit_name units.TimecentsPerKey = codes "timecents a key"
unit_name units.TenthsOfPercent = codes "0.1 %"
unit_name units.Keys = codes "key"
unit_name units.Velocities = codes "velocity"
unit_name units.Instrument = codes "instrument"
unit_name units.Sample = codes "sample"
unit_name units.Mode = codes "loop mode"
unit_name units.Class = codes "class"

-- a text without the blanks at its end
abbrev pub without_blanks : List ℕ → List ℕ
without_blanks text = take (length text - suffix_len is_ascii_whitespace text) text

-- whether only the bank limits a low end, or a high end
abbrev pub is_open_below : ℤ → Bool
is_open_below (pos n) = false
is_open_below (negsuc n) = n == 32767

abbrev pub is_open_above : ℤ → Bool
is_open_above (pos n) = n == 32767
is_open_above (negsuc n) = false

-- the text of a range: its ends with two dots between them, without those that only the bank limits
abbrev pub range_text : ℤ → ℤ → List ℕ
range_text low high =
    if is_open_below low && is_open_above high then codes "any"
    else (if is_open_below low then codes "" else signed_decimal low)
    ++ (codes ".." ++ (if is_open_above high then codes "" else signed_decimal high))
