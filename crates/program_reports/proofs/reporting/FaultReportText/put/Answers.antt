use Rattle.base_outputs.proofs.OutputLaws.{puts_then}
use Rattle.program_reports.proofs.reporting.FaultReportText.put.Goals as goal

pub returns : goal.returns
returns g c = puts_then _ _ c.put_line.ensures c.put_details.ensures
