use Rattle.std.proofs.Common.{refl}
use Rattle.program_commands.proofs.PresetLaws.{no_preset_bank, no_preset_number, no_preset_unsplit, preset_named}
use Rattle.program_commands.proofs.presets.parse_preset.Goals as goal

-- There is no colon.
pub returns-in_err-bank : goal.returns-in_err-bank
returns-in_err-bank c =
    rw c.from_residual.ensures (no_preset_unsplit c.args.text.now c.in_err-bank.ensures.cases)

-- The bank is no number.
pub returns-in_err-parse_decimal : goal.returns-in_err-parse_decimal
returns-in_err-parse_decimal c =
    rw c.from_residual-in_err-parse_decimal.ensures (no_preset_bank c.args.text.now c.in_ok-bank.bank
    c.in_ok-bank.number c.in_ok-bank.ensures.cases c.in_err-parse_decimal.ensures)

-- The number is none.
pub returns-in_err-parse_decimal-2 : goal.returns-in_err-parse_decimal-2
returns-in_err-parse_decimal-2 c =
    rw c.from_residual-in_err-parse_decimal-2.ensures (no_preset_number c.args.text.now c.in_ok-bank.bank
    c.in_ok-bank.number c.in_ok-bank.ensures.cases c.in_err-parse_decimal-2.ensures)

pub returns : goal.returns
returns c = (
  preset_named c.args.text.now c.in_ok-bank.bank c.in_ok-bank.number c.in_ok-bank.ensures.cases _
      c.in_ok-parse_decimal.ensures.0 c.in_ok-parse_decimal-2.ensures.0,
  λ other given. refl,
)
