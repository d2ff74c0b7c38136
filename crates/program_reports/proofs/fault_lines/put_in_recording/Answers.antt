use Rattle.std.proofs.Common.{◌∙◌}
use Rattle.base_outputs.proofs.OutputLaws.{puts_then}
use Rattle.program_reports.proofs.fault_lines.put_in_recording.Goals as goal

pub returns : goal.returns
returns g c =
    puts_then _ _ (rw (c.as_bytes.ensures.value ∙ c.format.ensures.text) at c.put_pieces.ensures)
    c.put_recording_text.ensures
