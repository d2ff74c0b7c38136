use Rattle.program_reports.proofs.fault_lines.put_has_findings.Goals as goal

pub returns : goal.returns
returns g c = rw (c.explanation-explanation.ensures.number, c.explanation-explanation.ensures.name) at c.put_path_line.ensures
