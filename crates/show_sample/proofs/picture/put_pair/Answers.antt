use Rattle.base_outputs.proofs.OutputLaws.{puts_then}
use Rattle.show_sample.proofs.picture.put_pair.Goals as goal

pub returns : goal.returns
returns g c =
    puts_then _ _ c.put_head.ensures
    (puts_then _ _ c.put_row_of.ensures (puts_then _ _ c.put_row_of-2.ensures c.put.ensures))
