use Rattle.std.proofs.Common.{[], ◌∷◌}
use Rattle.bank_validity.specs.Limits.{broken_limit}
use Rattle.bank_changes.specs.Members.{level_of}
use Rattle.edit_forms.specs.declared.settings.SettingStep.TheVariants.{ClearGen}
use Rattle.edit_forms.specs.declared.step.Step.TheVariants as steps
use Rattle.edit_forms.specs.Causes.{no_such_owner, no_such_zone_at, foreign_operator, not_set}
use Rattle.edit_forms.specs.Steps.{raw}
use Rattle.edit_refusals.proofs.Accepted.{by_last}
use Rattle.edit_refusals.proofs.SettingLaws.{clear_gen_allowed, within_clear_gen}
use Rattle.edit_refusals.proofs.settings.refuse_clear_gen.Goals as goal

pub returns : goal.returns
returns c =
    let b = c.args.bank.now in
    let o = c.args.owner in
    let at = c.args.place in
    let op = c.args.operator in
    let owner = c.requires.owner in
    let zone = c.requires.zone in
    let own = rw c.level.ensures at c.in_ok-foreign_operator.ensures in
    by_last (no_such_owner b o ∷ no_such_zone_at b o at ∷ foreign_operator (level_of o) op ∷ []) (not_set b o at op)
    (broken_limit (raw b (steps.Setting o at (ClearGen op)))) c.not_set.result
    (owner, (zone, (own, tt))) c.not_set.ensures
    (λ set. within_clear_gen b o at op c.requires.sound (clear_gen_allowed b o at op (owner, (zone, (own, (set, tt))))))
