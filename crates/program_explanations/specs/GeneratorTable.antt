-- The table of the generators.
use Rattle.std.specs.Prelude.{ℕ, List, ◌++◌, ◌-◌, Bool, if◌then◌else◌, length, take, flat_map, codes, decimal}
use Rattle.std.specs.Fmt.{signed_decimal}
use Rattle.program_explanations.specs.Explanations.{line_of}
use Rattle.generator_rows.specs.declared.row.DefaultAmount.{DefaultAmount}
use Rattle.generator_rows.specs.declared.row.DefaultAmount.TheVariants.{Number, WholeRange, Nothing}
use Rattle.generator_rows.specs.declared.row.GeneratorRow.{GeneratorRow}
use Rattle.generator_rows.specs.declared.rows.TheConstants.{ROWS}
use Rattle.generator_rows.specs.Rows.{unit_name}
use Rattle.program_explanations.specs.declared.generator_table.TheConstants.{HEADING, BLANKS}
use Rattle.program_explanations.specs.declared.generator_table.TheConstants.{NUMBER_WIDTH, NAME_WIDTH, UNIT_WIDTH}
use Rattle.program_explanations.specs.declared.generator_table.TheConstants.{RANGE_WIDTH, DEFAULT_WIDTH}

-- a default: a signed number in digits, all keys or velocities, or none
abbrev pub default_text : DefaultAmount → List ℕ
default_text (Number amount) = signed_decimal amount
default_text WholeRange = codes "0..127"
default_text Nothing = codes "none"

-- a text, and blanks up to a width
abbrev pub padded : ℕ → List ℕ → List ℕ
padded width text = text ++ take (width - length text) BLANKS

-- whether something holds, in a word
abbrev pub yes_or_no : Bool → List ℕ
yes_or_no holds = if holds then codes "yes" else codes "no"

-- the line of a generator: its cells, each padded to the width of its column
unfoldable pub row_text : GeneratorRow → List ℕ
row_text row =
    padded NUMBER_WIDTH (decimal row.number) ++ (padded NAME_WIDTH row.name ++ (padded UNIT_WIDTH (unit_name row.unit)
    ++ (padded RANGE_WIDTH row.range ++ (padded DEFAULT_WIDTH (default_text row.default)
    ++ line_of (yes_or_no row.is_played)))))

-- the heading, and the line of each generator
abbrev pub table_text : List ℕ
table_text = line_of HEADING.now ++ flat_map row_text ROWS
