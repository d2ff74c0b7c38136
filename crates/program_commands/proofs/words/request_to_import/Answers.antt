use Rattle.program_commands.specs.Words.{rows_in}
use Rattle.program_commands.proofs.RequestLaws.{none_imported}
use Rattle.program_commands.proofs.words.request_to_import.Goals as goal

-- The words give neither one recording nor a kit.
pub returns-in-None : goal.returns-in-None
returns-in-None c = none_imported (rows_in c.args.words.now) c.in_default.ensures
    (rw c.in-None.is at c.in_ok-found.ensures)
