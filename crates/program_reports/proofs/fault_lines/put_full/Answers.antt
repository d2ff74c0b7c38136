use Rattle.base_outputs.proofs.OutputLaws.{puts_then}
use Rattle.program_reports.proofs.fault_lines.put_full.Goals as goal

pub returns : goal.returns
returns g c = puts_then _ _ c.put.ensures (puts_then _ _ c.put-2.ensures c.put-3.ensures)
