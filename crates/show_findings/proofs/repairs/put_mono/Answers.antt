use Rattle.base_outputs.proofs.OutputLaws.{puts_then}
use Rattle.show_findings.proofs.repairs.put_mono.Goals as goal

pub returns : goal.returns
returns g c = puts_then _ _ c.put.ensures (puts_then _ _ c.put_number.ensures c.put-2.ensures)
