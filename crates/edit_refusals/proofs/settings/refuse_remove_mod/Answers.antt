use Rattle.std.proofs.Common.{[], ◌∷◌}
use Rattle.bank_validity.specs.Limits.{broken_limit}
use Rattle.edit_forms.specs.declared.settings.SettingStep.TheVariants.{RemoveMod}
use Rattle.edit_forms.specs.declared.step.Step.TheVariants as steps
use Rattle.edit_forms.specs.Causes.{no_such_owner, no_such_zone_at, no_such_modulator, linked_place}
use Rattle.edit_forms.specs.Steps.{raw}
use Rattle.edit_refusals.proofs.Accepted.{by_last}
use Rattle.edit_refusals.proofs.SettingLaws.{remove_mod_allowed, within_remove_mod}
use Rattle.edit_refusals.proofs.settings.refuse_remove_mod.Goals as goal

pub returns : goal.returns
returns c =
    let b = c.args.bank.now in
    let o = c.args.owner in
    let at = c.args.place in
    let j = c.args.index in
    let owner = c.requires.owner in
    let zone = c.requires.zone in
    let index = c.in_ok-no_such_modulator.ensures in
    by_last (no_such_owner b o ∷ no_such_zone_at b o at ∷ no_such_modulator b o at j ∷ []) (linked_place b o at)
    (broken_limit (raw b (steps.Setting o at (RemoveMod j)))) c.linked_place.result (owner, (zone, (index, tt)))
    c.linked_place.ensures
    (λ link.
    within_remove_mod b o at j c.requires.sound (remove_mod_allowed b o at j (owner, (zone, (index, (link, tt))))))
