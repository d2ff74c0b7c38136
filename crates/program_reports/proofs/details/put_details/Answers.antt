use Rattle.base_outputs.proofs.OutputLaws.{puts_then}
use Rattle.program_reports.proofs.details.put_details.Goals as goal

pub returns : goal.returns
returns g c = puts_then _ _ c.put.ensures c.put_advice.ensures
