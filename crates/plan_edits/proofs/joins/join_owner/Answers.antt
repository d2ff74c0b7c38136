use Rattle.plan_edits.proofs.AlikeSteps.{adds_both}
use Rattle.plan_edits.proofs.joins.join_owner.Goals as goal

pub loop-pass-preserved : goal.loop-pass-preserved
loop-pass-preserved c = adds_both c.args.draft.now c.loop-pass.draft c.join_in_turn.new.draft c.loop-pass.invariant c.join_in_turn.ensures

pub returns-in_err-join_in_turn : goal.returns-in_err-join_in_turn
returns-in_err-join_in_turn c = adds_both c.args.draft.now c.loop-pass.draft c.join_in_turn.new.draft c.loop-pass.invariant c.join_in_turn.ensures

pub returns-then-zone_count-before : goal.returns-then-zone_count-before
returns-then-zone_count-before c = adds_both c.args.draft.now c.loop-pass.draft c.join_in_turn.new.draft c.loop-pass.invariant c.join_in_turn.ensures
