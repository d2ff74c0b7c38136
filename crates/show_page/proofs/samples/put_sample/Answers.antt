use Rattle.base_outputs.proofs.OutputLaws.{puts_then}
use Rattle.show_page.specs.Samples.{sample_text}
use Rattle.show_page.proofs.samples.put_sample.Goals as goal

pub returns : goal.returns
unfolding sample_text
returns g c =
    puts_then _ _ c.put.ensures
    (puts_then _ _ (rw (c.text.ensures, c.bytes.ensures.value) at c.put_opened.ensures)
    (puts_then _ _ c.put_fields.ensures
    (puts_then _ _ c.put-2.ensures (puts_then _ _ c.put_columns.ensures c.put-3.ensures))))
