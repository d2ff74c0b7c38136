use Rattle.std.proofs.Common.{◌∙◌}
use Rattle.base_outputs.proofs.OutputLaws.{puts_then}
use Rattle.program_explanations.proofs.explanations.put_explanation.Goals as goal

pub returns : goal.returns
returns g c =
    puts_then _ _ (rw (c.as_bytes.ensures.value ∙ c.format.ensures.text) at c.put.ensures)
    (puts_then _ _ c.put-2.ensures
    (puts_then _ _ c.put_line.ensures (puts_then _ _ c.put_line-2.ensures c.put_line-3.ensures)))
