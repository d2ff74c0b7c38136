use Rattle.std.proofs.Common.{sym, subst}
use Rattle.bank_parts.specs.Sound.{IsSound}
use Rattle.plan_take.proofs.AdditionLaws.{adds_step}
use Rattle.plan_take.proofs.neutral_steps.edit_neutrally.Goals as goal

pub returns : goal.returns
returns c =
    adds_step c.args.draft.now c.edit.new.self c.args.step c.edit.result
    (subst IsSound c.bank.ensures c.soundness.ensures) (sym c.if-not-is_neutral.ensures) c.edit.ensures.first
    c.edit.ensures.done
