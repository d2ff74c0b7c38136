use Rattle.plan_edits.proofs.AlikeSteps.{adds_both}
use Rattle.plan_edits.proofs.joins.join_in_turn.Goals as goal

pub loop-zone-preserved : goal.loop-zone-preserved
loop-zone-preserved c = adds_both c.args.draft.now c.loop-zone.draft c.join_next.new.draft c.loop-zone.invariant c.join_next.ensures

pub returns-in_err-join_next : goal.returns-in_err-join_next
returns-in_err-join_next c = adds_both c.args.draft.now c.loop-zone.draft c.join_next.new.draft c.loop-zone.invariant c.join_next.ensures
