use Rattle.std.proofs.Common.{◌∙◌, arith, refl, sym}
use Rattle.clap.specs.Words.{found_of}
use Rattle.clap.proofs.WalkLemmas.{raw_values-rows}
use Rattle.program_commands.specs.Words.{rows_in}
use Rattle.program_commands.proofs.KitLaws.{named_given, no_named_absent, no_named_length, no_named_name}
use Rattle.program_commands.proofs.KitLaws.{no_named_numbers, no_text, values_of}
use Rattle.program_commands.proofs.kits.read_named.Goals as goal

-- The option is not used.
pub returns-in_err-values : goal.returns-in_err-values
returns-in_err-values c =
    rw c.from_residual.ensures (no_named_absent (rows_in c.args.matches.now) c.args.option.now
    (sym (c.in_err-values.ensures ∙ raw_values-rows (found_of c.args.matches.now) c.args.option.now)))

-- It has another number of values than two.
pub returns-then-values-ne2 : goal.returns-then-values-ne2
returns-then-values-ne2 c =
    no_named_length (rows_in c.args.matches.now) c.args.option.now c.in_ok-values.values.now
    (sym (c.in_ok-values.ensures ∙ raw_values-rows (found_of c.args.matches.now) c.args.option.now))
    (λ two. absurd (omega arith))

-- The first value names no preset.
pub returns-in_err-parse_preset : goal.returns-in_err-parse_preset
returns-in_err-parse_preset c =
    rw c.from_residual-in_err-parse_preset.ensures (no_named_numbers (rows_in c.args.matches.now) c.args.option.now _ _
    (values_of (rows_in c.args.matches.now) c.args.option.now c.in_ok-values.values.now _ no_text
    (sym (c.in_ok-values.ensures ∙ raw_values-rows (found_of c.args.matches.now) c.args.option.now)) (omega arith))
    c.in_err-parse_preset.ensures)

-- The second value is no name.
pub returns-in_err-parse_name : goal.returns-in_err-parse_name
returns-in_err-parse_name c =
    rw c.from_residual-in_err-parse_name.ensures (no_named_name (rows_in c.args.matches.now) c.args.option.now _ _
    (values_of (rows_in c.args.matches.now) c.args.option.now c.in_ok-values.values.now no_text _
    (sym (c.in_ok-values.ensures ∙ raw_values-rows (found_of c.args.matches.now) c.args.option.now)) (omega arith))
    c.in_err-parse_name.ensures)

-- The two values are those of the preset.
pub returns : goal.returns
returns c = (
  named_given (rows_in c.args.matches.now) c.args.option.now _ _
      (values_of (rows_in c.args.matches.now) c.args.option.now c.in_ok-values.values.now _ _
      (sym (c.in_ok-values.ensures ∙ raw_values-rows (found_of c.args.matches.now) c.args.option.now)) (omega arith))
      _ c.in_ok-parse_preset.ensures.0 c.in_ok-parse_name.ensures.0,
  λ other given. refl,
)
