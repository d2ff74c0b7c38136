use Rattle.program_reports.proofs.details.put_indented.Goals as goal

pub returns : goal.returns
returns g c = rw c.as_bytes.ensures.value at c.put_pieces.ensures
