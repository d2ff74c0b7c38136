use Rattle.sample_view.proofs.CopyLaws.{copied_next}
use Rattle.sample_view.proofs.cuts.copy_range.Goals as goal

pub loop-piece-preserved : goal.loop-piece-preserved
loop-piece-preserved c = record {
  copy_range =
      copied_next _ _ _ _ _ _ _ _ _ _ _ _ c.loop-piece-test.true c.loop-piece.invariant.copy_range c.min-start.ensures
      c.min-room.ensures
      c.part.ensures.points c.in_ok-push_piece.ensures.points;
  whole = c.in_ok-push_piece.ensures.whole;
}
