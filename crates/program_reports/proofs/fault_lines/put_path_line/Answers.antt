use Rattle.std.proofs.Common.{◌∙◌}
use Rattle.program_reports.proofs.fault_lines.put_path_line.Goals as goal

pub returns : goal.returns
returns g c =
    rw (c.as_bytes.ensures.value ∙ c.format.ensures.text, c.as_bytes-2.ensures.value, c.as_bytes-3.ensures.value)
    at c.put_pieces.ensures
