use Rattle.plan_edits.proofs.AlikeSteps.{adds_both}
use Rattle.plan_edits.proofs.unused.remove_unused.Goals as goal

pub returns : goal.returns
returns c = adds_both c.args.draft.now c.remove_unused_instruments.new.draft c.remove_unused_samples.new.draft c.remove_unused_instruments.ensures c.remove_unused_samples.ensures
