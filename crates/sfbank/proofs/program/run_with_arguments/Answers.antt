use Rattle.std.proofs.Common.{inr}
use Rattle.sfbank.proofs.OutcomeLaws.{explained_ends}
use Rattle.sfbank.proofs.program.run_with_arguments.Goals as goal

pub returns-in-Ok : goal.returns-in-Ok
returns-in-Ok g c = explained_ends c.args.is_terminal _ _ _ _ c.run.ensures.ends

pub returns-in-Err : goal.returns-in-Err
returns-in-Err g c = (c.args.is_terminal, λ e. e, inr (c.in-Err.fault, c.report.ensures.status, c.report.ensures.reported))
