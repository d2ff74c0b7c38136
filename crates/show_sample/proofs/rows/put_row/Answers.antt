use Rattle.base_outputs.proofs.OutputLaws.{puts_then}
use Rattle.show_sample.specs.Rows.{row_text}
use Rattle.show_sample.proofs.rows.put_row.Goals as goal

pub returns : goal.returns
unfolding row_text
returns g c = puts_then _ _ c.put_facts.ensures c.put_shapes.ensures
