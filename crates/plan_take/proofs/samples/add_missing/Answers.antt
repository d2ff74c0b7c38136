use Rattle.plan_take.proofs.AdditionLaws.{adds_both}
use Rattle.plan_take.proofs.samples.add_missing.Goals as goal

pub loop-i-preserved : goal.loop-i-preserved
loop-i-preserved c =
    adds_both c.args.draft.now c.loop-i.draft c.add_if_missing.new.draft c.loop-i.invariant c.add_if_missing.ensures

pub returns-in_err-add_if_missing : goal.returns-in_err-add_if_missing
returns-in_err-add_if_missing c =
    adds_both c.args.draft.now c.loop-i.draft c.add_if_missing.new.draft c.loop-i.invariant c.add_if_missing.ensures
