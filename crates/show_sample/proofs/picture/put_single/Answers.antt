use Rattle.base_outputs.proofs.OutputLaws.{puts_then}
use Rattle.show_sample.proofs.picture.put_single.Goals as goal

pub returns : goal.returns
returns g c = puts_then _ _ c.put_head.ensures (puts_then _ _ c.put_row_of.ensures c.put.ensures)
