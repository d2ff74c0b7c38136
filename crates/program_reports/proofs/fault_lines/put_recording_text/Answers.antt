use Rattle.program_reports.proofs.fault_lines.put_recording_text.Goals as goal

pub returns : goal.returns
returns g c = rw (c.number.ensures, c.name.ensures) at c.put_named.ensures
