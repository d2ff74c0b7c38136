use Rattle.std.proofs.Common.{◌∙◌}
use Rattle.base_outputs.proofs.OutputLaws.{puts_then}
use Rattle.program_explanations.specs.GeneratorTable.{row_text}
use Rattle.program_explanations.proofs.generator_table.put_row.Goals as goal

pub returns : goal.returns
unfolding row_text
returns g c =
    puts_then _ _ (rw (c.as_bytes.ensures.value ∙ c.format.ensures.text) at c.put_padded.ensures)
    (puts_then _ _ c.put_padded-2.ensures
    (puts_then _ _ (rw (c.as_bytes-2.ensures.value ∙ c.name.ensures) at c.put_padded-3.ensures)
    (puts_then _ _ c.put_padded-4.ensures
    (puts_then _ _ c.put_default.ensures (rw c.yes_or_no.ensures at c.put_line.ensures)))))
