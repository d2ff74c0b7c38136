use Rattle.std.proofs.Common.{refl, rules}
use Rattle.base_outputs.proofs.OutputSteps.{puts_fault}
use Rattle.base_outputs.proofs.output.Output.write_held.Goals as goal

pub returns-in-Err-clause-puts : goal.returns-in-Err-clause-puts
returns-in-Err-clause-puts g c = puts_fault c.in-Err.fault c.requires refl refl (search rules)
