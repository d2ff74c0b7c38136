use Rattle.plan_take.proofs.AdditionLaws.{adds_both}
use Rattle.plan_take.proofs.samples.set_links.Goals as goal

pub loop-i-preserved : goal.loop-i-preserved
loop-i-preserved c =
    adds_both c.args.draft.now c.loop-i.draft c.set_link.new.draft c.loop-i.invariant c.set_link.ensures

pub returns-in_err-set_link : goal.returns-in_err-set_link
returns-in_err-set_link c =
    adds_both c.args.draft.now c.loop-i.draft c.set_link.new.draft c.loop-i.invariant c.set_link.ensures
