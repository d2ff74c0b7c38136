use Rattle.plan_edits.proofs.AlikeSteps.{adds_both}
use Rattle.plan_edits.proofs.joins.join_presets.Goals as goal

pub loop-preset-preserved : goal.loop-preset-preserved
loop-preset-preserved c = adds_both c.args.draft.now c.loop-preset.draft c.join_owner.new.draft c.loop-preset.invariant c.join_owner.ensures

pub returns-in_err-join_owner : goal.returns-in_err-join_owner
returns-in_err-join_owner c = adds_both c.args.draft.now c.loop-preset.draft c.join_owner.new.draft c.loop-preset.invariant c.join_owner.ensures
