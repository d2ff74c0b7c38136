use Rattle.plan_edits.proofs.AlikeSteps.{adds_both}
use Rattle.plan_edits.proofs.unused.remove_unused_samples.Goals as goal

pub returns : goal.returns
returns c = adds_both c.args.draft.now c.edit_neutrally.new.draft c.edit_neutrally-2.new.draft c.edit_neutrally.ensures c.edit_neutrally-2.ensures
