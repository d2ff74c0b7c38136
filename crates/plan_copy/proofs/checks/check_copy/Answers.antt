use Rattle.std.proofs.Common.{length, sym, ap, subst, ◌∙◌}
use Rattle.plan_presets.specs.declared.numbers.CopiedMember.{CopiedMember}
use Rattle.plan_copy.proofs.FaultLaws.{IsJudged, instrument_judged, sample_judged}
use Rattle.plan_copy.proofs.checks.check_copy.Goals as goal

pub returns-in-Inst : goal.returns-in-Inst
returns-in-Inst c =
    subst (λ (m : CopiedMember). IsJudged c.args.bank.now m c.check_number.result) (sym c.in-Inst.is)
    (instrument_judged c.args.bank.now c.in-Inst.number c.len.result c.check_number.result
    (c.len.ensures ∙ ap length c.instruments.ensures.value) c.check_number.ensures)

pub returns-in-Sample : goal.returns-in-Sample
returns-in-Sample c =
    subst (λ (m : CopiedMember). IsJudged c.args.bank.now m c.check_number-in-Sample.result) (sym c.in-Sample.is)
    (sample_judged c.args.bank.now c.in-Sample.number (length c.samples.result.now) c.check_number-in-Sample.result
    (ap length c.samples.ensures.value) c.check_number-in-Sample.ensures)
