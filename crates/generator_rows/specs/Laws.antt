-- The rows of the table follow the rules of edits and of the sound, and their ranges are two numbers in a text.
use Rattle.std.specs.Prelude.{◌≡◌, ◌==◌, ◌||◌, ℕ, ℤ, Bool, Option, Some, None, if◌then◌else◌, filter, map}
use Rattle.std.specs.List.{range_with_len}
use Rattle.std.specs.Option.{is_some}
use Rattle.generators.specs.declared.level.Level.TheVariants.{Preset, Inst}
use Rattle.generators.specs.Defaults.{default_of}
use Rattle.generators.specs.Levels.{is_allowed, target_operator}
use Rattle.generators.specs.Ranges.{is_range_operator}
use Rattle.generator_rows.specs.declared.row.DefaultAmount.{DefaultAmount}
use Rattle.generator_rows.specs.declared.row.DefaultAmount.TheVariants.{Number, WholeRange, Nothing}
use Rattle.generator_rows.specs.declared.row.GeneratorRow.{GeneratorRow}
use Rattle.generator_rows.specs.declared.rows.TheConstants.{ROWS}
use Rattle.generator_rows.specs.Rows.{range_text, without_blanks}

-- the operator of a zone's target
abbrev pub is_target : ℕ → Bool
is_target op = op == target_operator Preset || op == target_operator Inst

-- the number of operators in the standard, of which the last is 60, endOper
abbrev pub operators : ℕ
operators = 61

-- a row for each operator that instruments allow, which are all that presets allow and more, and for each target
abbrev pub RowsAreOfUsableOperators : Type 0
RowsAreOfUsableOperators =
    map (λ row. row.number) ROWS ≡ filter (λ op. is_allowed Inst op || is_target op) (range_with_len 0 operators)

-- a default that is a number
abbrev pub number_of_default : DefaultAmount → Option ℤ
number_of_default (Number amount) = Some amount
number_of_default WholeRange = None
number_of_default Nothing = None

-- the number that the sound uses where no zone sets the generator of a row
abbrev pub played_default : GeneratorRow → Option ℤ
played_default row = if row.is_played then number_of_default row.default else None

-- the defaults of the played rows are those of the sound
abbrev pub RowsHaveDefaultsOfSound : Type 0
RowsHaveDefaultsOfSound = map played_default ROWS ≡ map (λ row. default_of row.number) ROWS

-- a row is played exactly if the sound has a default of its generator, or it is a range or a target
abbrev pub RowsShowPlayed : Type 0
RowsShowPlayed =
    map (λ row. row.is_played) ROWS
    ≡ map (λ row. is_some (default_of row.number) || is_range_operator row.number || is_target row.number) ROWS

-- the text of each range has its two numbers
abbrev pub RowsShowRanges : Type 0
RowsShowRanges = map (λ row. without_blanks row.range) ROWS ≡ map (λ row. range_text row.low row.high) ROWS
