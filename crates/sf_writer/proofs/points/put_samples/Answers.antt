use Rattle.base_outputs.proofs.OutputLaws.{putting_step}
use Rattle.sf_writer.proofs.ChunkLaws.{encoding-read}
use Rattle.sf_writer.proofs.points.put_samples.Goals as goal

pub loop-sample-preserved : goal.loop-sample-preserved
loop-sample-preserved g c =
    putting_step _ _ c.loop-sample.invariant
    (encoding-read _ _ _ c.loop-sample.sample-index _ c.loop-sample-test.true c.sample-item.is)
    c.put_sample.ensures
