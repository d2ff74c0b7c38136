use Rattle.base_outputs.proofs.OutputLaws.{puts_then}
use Rattle.program_reports.proofs.fault_lines.put_row_file.Goals as goal

pub returns : goal.returns
returns g c =
    puts_then _ _ c.put_row_start.ensures (rw c.as_bytes.ensures.value at c.put_pieces.ensures)
