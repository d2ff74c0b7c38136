use Rattle.std.proofs.Common.{sym}
use Rattle.plan_copy.proofs.StepLaws.{adds_sample}
use Rattle.plan_copy.proofs.steps.sample_step.Goals as goal

pub returns : goal.returns
returns c =
    adds_sample c.args.bank.now c.args.number c.count-at.result c.args.name c.in-Some.original.now
    c.in_ok-sample.sample c.soundness.ensures.valid (sym c.in-Some.ensures) c.in_ok-sample.ensures c.count-at.ensures
