use Rattle.base_outputs.proofs.OutputLaws.{putting_step}
use Rattle.sf_writer.proofs.ChunkLaws.{flat_map-next}
use Rattle.sf_writer.proofs.points.put_points.Goals as goal

pub loop-piece-preserved : goal.loop-piece-preserved
loop-piece-preserved g c =
    putting_step _ _ c.loop-piece.invariant (flat_map-next _ _ c.loop-piece.piece-index _ c.loop-piece-test.true)
    c.put.ensures
