use Rattle.std.proofs.Common.{refl, rules}
use Rattle.base_outputs.proofs.OutputSteps.{puts_on, puts_fault}
use Rattle.base_outputs.proofs.output.Output.put_first.Goals as goal

pub returns-in-Ok : goal.returns-in-Ok
returns-in-Ok g c = puts_on c.args.text.now (search rules) (search rules) refl (search rules) c.in-Ok.ensures

pub returns-in-Err : goal.returns-in-Err
returns-in-Err g c = puts_fault c.in-Err.fault (search rules) refl refl (search rules)
