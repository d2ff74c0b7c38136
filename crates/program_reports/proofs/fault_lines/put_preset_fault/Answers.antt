use Rattle.program_reports.proofs.fault_lines.put_preset_fault.Goals as goal

pub returns : goal.returns
returns g c = rw (c.number.ensures, c.name.ensures, c.numbers.ensures) at c.put_preset_text.ensures
