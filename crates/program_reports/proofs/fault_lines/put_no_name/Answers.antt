use Rattle.program_reports.proofs.fault_lines.put_no_name.Goals as goal

pub returns : goal.returns
returns g c = rw c.as_bytes.ensures.value at c.put_pieces.ensures
