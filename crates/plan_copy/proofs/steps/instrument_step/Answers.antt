use Rattle.std.proofs.Common.{sym}
use Rattle.plan_copy.proofs.StepLaws.{adds_instrument}
use Rattle.plan_copy.proofs.steps.instrument_step.Goals as goal

pub returns : goal.returns
returns c =
    adds_instrument c.args.bank.now c.args.number c.count-at.result c.args.name c.in-Some.original
    c.in_ok-instrument.instrument c.unwrap_or-head.result c.instruments.result.now c.instruments.ensures.valid
    (sym c.in-Some.ensures) c.unwrap_or-head.ensures c.instruments.ensures.value c.in_ok-instrument.ensures
    c.count-at.ensures
