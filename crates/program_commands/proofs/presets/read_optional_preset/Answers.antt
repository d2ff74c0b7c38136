use Rattle.std.proofs.Common.{sym}
use Rattle.program_commands.specs.Words.{rows_in}
use Rattle.program_commands.proofs.PresetLaws.{no_optional_preset}
use Rattle.program_commands.proofs.presets.read_optional_preset.Goals as goal

-- The text names no preset.
pub returns-in_err-parse_preset-in-Some : goal.returns-in_err-parse_preset-in-Some
returns-in_err-parse_preset-in-Some c =
    rw c.from_residual.ensures (no_optional_preset (rows_in c.args.matches.now) c.args.name.now c.in-Some.text.now
    (sym c.in-Some.ensures) c.in_err-parse_preset-in-Some.ensures)
