use Rattle.std.proofs.Common.{cond, Some, None, sym, ap, ◌∙◌}
use Rattle.plan_presets.specs.declared.fault.PresetFault.TheVariants.{InUse}
use Rattle.plan_take.proofs.ShiftLaws.{fault_if_found}
use Rattle.plan_take.proofs.merge_checks.shift_fault.Goals as goal

pub returns-in-Some : goal.returns-in-Some
returns-in-Some c b same =
    sym
    (ap (λ q. cond q (Some (InUse (record { bank = c.in-Some.bank; number = c.args.head.number }))) None) c.if-has_pair.true)
    ∙ fault_if_found b c.args.shift c.args.head c.in-Some.bank c.args.used.now c.has_pair.result c.in-Some.ensures
    c.has_pair.ensures same

pub returns-in-Some-2 : goal.returns-in-Some-2
returns-in-Some-2 c b same =
    sym
    (ap (λ q. cond q (Some (InUse (record { bank = c.in-Some.bank; number = c.args.head.number }))) None) c.if-has_pair.false)
    ∙ fault_if_found b c.args.shift c.args.head c.in-Some.bank c.args.used.now c.has_pair.result c.in-Some.ensures
    c.has_pair.ensures same
