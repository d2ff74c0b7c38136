use Rattle.std.proofs.Common.{◌∙◌}
use Rattle.program_reports.proofs.fault_lines.put_line_start.Goals as goal

pub returns : goal.returns
returns g c = rw (c.as_bytes.ensures.value ∙ c.format.ensures.text) at c.put_pieces.ensures
