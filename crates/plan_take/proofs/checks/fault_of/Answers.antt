use Rattle.std.proofs.Common.{List, sym, ap, ◌∙◌, rules}
use Rattle.bank_parts.specs.declared.parts.Head.{Head}
use Rattle.bank_parts.specs.declared.parts.ZoneOwner.{ZoneOwner}
use Rattle.plan_take.specs.Taking.{has_preset}
use Rattle.plan_take.proofs.FaultLaws.{fault_if_used, fault_if_free, left_true, right_true}
use Rattle.plan_take.proofs.checks.fault_of.Goals as goal
use Rattle.plan_take.proofs.checks.fault_of.Goals.{then-has_preset-via-then-has_preset, then-has_preset-via-else-has_preset+then-are_given}

pub returns-then-has_preset : goal.returns-then-has_preset
returns-then-has_preset c =
    let used = ap (λ (ps : List (ZoneOwner Head)). has_preset ps c.args.taken.to) c.presets-2.ensures.value in
    fault_if_used c.args.from.now c.args.bank.now c.args.others.now c.args.taken (search rules)
    (elim c.then-has_preset.branch [
      | then-has_preset-via-then-has_preset w ↦
          left_true _ _ (sym used ∙ sym c.has_preset-2.ensures ∙ w.if-has_preset.true)
      | then-has_preset-via-else-has_preset+then-are_given w ↦
          right_true _ _ (sym w.are_given.ensures ∙ w.if-are_given.true)
    ])

pub returns : goal.returns
returns c =
    fault_if_free c.args.from.now c.args.bank.now c.args.others.now c.args.taken (search rules) (search rules)
    (sym c.are_given.ensures ∙ c.if-are_given.false)
