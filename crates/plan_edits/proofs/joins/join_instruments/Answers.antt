use Rattle.plan_edits.proofs.AlikeSteps.{adds_both}
use Rattle.plan_edits.proofs.joins.join_instruments.Goals as goal

pub loop-instrument-preserved : goal.loop-instrument-preserved
loop-instrument-preserved c = adds_both c.args.draft.now c.loop-instrument.draft c.join_owner.new.draft c.loop-instrument.invariant c.join_owner.ensures

pub returns-in_err-join_owner : goal.returns-in_err-join_owner
returns-in_err-join_owner c = adds_both c.args.draft.now c.loop-instrument.draft c.join_owner.new.draft c.loop-instrument.invariant c.join_owner.ensures
