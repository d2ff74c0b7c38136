use Rattle.std.proofs.Common.{sym}
use Rattle.program_commands.specs.Words.{rows_in}
use Rattle.program_commands.proofs.KitLaws.{no_optional_named}
use Rattle.program_commands.proofs.kits.read_optional_named.Goals as goal

-- The values name no preset.
pub returns-in_err-read_named-in-Some : goal.returns-in_err-read_named-in-Some
returns-in_err-read_named-in-Some c =
    rw c.from_residual.ensures (no_optional_named (rows_in c.args.matches.now) c.args.option.now _
    (sym c.in-Some.ensures) c.in_err-read_named-in-Some.ensures)
