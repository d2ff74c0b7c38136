use Rattle.plan_edits.proofs.AlikeSteps.{adds_both}
use Rattle.plan_edits.proofs.neutral_steps.edit_neutrally.Goals as goal

pub loop-step-preserved : goal.loop-step-preserved
loop-step-preserved c = adds_both c.args.draft.now c.loop-step.draft c.edit_once.new.draft c.loop-step.invariant c.edit_once.ensures

pub returns-in_err-edit_once : goal.returns-in_err-edit_once
returns-in_err-edit_once c = adds_both c.args.draft.now c.loop-step.draft c.edit_once.new.draft c.loop-step.invariant c.edit_once.ensures
