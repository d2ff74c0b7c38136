use Rattle.sample_view.proofs.PositionLaws.{position-next}
use Rattle.sample_view.proofs.cuts.cut_at.Goals as goal

pub loop-piece-preserved : goal.loop-piece-preserved
loop-piece-preserved c = position-next _ _ _ _ _ c.loop-piece-test.true c.loop-piece.invariant c.if-position-count.false
