use Rattle.plan_edits.proofs.AlikeSteps.{adds_both}
use Rattle.plan_edits.proofs.links.repair_links.Goals as goal

pub loop-number-preserved : goal.loop-number-preserved
loop-number-preserved c = adds_both c.args.draft.now c.loop-number.draft c.repair_link.new.draft c.loop-number.invariant c.repair_link.ensures

pub returns-in_err-repair_link : goal.returns-in_err-repair_link
returns-in_err-repair_link c = adds_both c.args.draft.now c.loop-number.draft c.repair_link.new.draft c.loop-number.invariant c.repair_link.ensures
