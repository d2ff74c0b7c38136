use Rattle.std.proofs.Common.{refl}
use Rattle.program_commands.proofs.PresetLaws.{no_taken_from, no_taken_to, no_taken_unsplit, taken_named}
use Rattle.program_commands.proofs.presets.parse_taken.Goals as goal

-- There is no equals sign, and the text names no preset.
pub returns-in_err-preset-in-None : goal.returns-in_err-preset-in-None
returns-in_err-preset-in-None c =
    rw c.from_residual-in_err-preset-in-None.ensures (no_taken_unsplit c.args.text.now c.in-None.ensures.cases
    c.in_err-preset-in-None.ensures)

-- What is before it names no preset.
pub returns-in_err-parse_preset-in-Some : goal.returns-in_err-parse_preset-in-Some
returns-in_err-parse_preset-in-Some c =
    rw c.from_residual.ensures (no_taken_from c.args.text.now c.in-Some.from c.in-Some.to c.in-Some.ensures.cases
    c.in_err-parse_preset-in-Some.ensures)

-- What is after it names none.
pub returns-in_err-parse_preset-in-Some-2 : goal.returns-in_err-parse_preset-in-Some-2
returns-in_err-parse_preset-in-Some-2 c =
    rw c.from_residual-in_err-parse_preset-in-Some-2.ensures (no_taken_to c.args.text.now c.in-Some.from c.in-Some.to
    c.in-Some.ensures.cases c.in_err-parse_preset-in-Some-2.ensures)

pub returns-in_ok-parse_preset-in-Some-2 : goal.returns-in_ok-parse_preset-in-Some-2
returns-in_ok-parse_preset-in-Some-2 c = (
  taken_named c.args.text.now c.in-Some.from c.in-Some.to c.in-Some.ensures.cases _
      c.in_ok-parse_preset-in-Some.ensures.0 c.in_ok-parse_preset-in-Some-2.ensures.0,
  λ other given. refl,
)
