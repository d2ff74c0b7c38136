use Rattle.program_commands.specs.Words.{rows_in}
use Rattle.program_commands.proofs.PlanLaws.{none_copied}
use Rattle.program_commands.proofs.words.request_to_copy.Goals as goal

pub returns-in-None : goal.returns-in-None
returns-in-None c = none_copied (rows_in c.args.words.now) (rw c.in-None.is at c.read_copy.ensures)
