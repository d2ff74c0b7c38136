use Rattle.program_reports.proofs.fault_lines.put_table_fault.Goals as goal

pub returns : goal.returns
returns g c = rw (c.line.ensures, c.number.ensures, c.name.ensures) at c.put_text_fault.ensures
