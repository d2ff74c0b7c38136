use Rattle.base_outputs.proofs.OutputLaws.{puts_row}
use Rattle.sf_writer.proofs.PointLaws.{sample-parts}
use Rattle.sf_writer.proofs.points.put_sample.Goals as goal

pub returns : goal.returns
returns g c = puts_row _ _ _ (sample-parts c.args.sample.now) c.put_points.ensures c.put.ensures
