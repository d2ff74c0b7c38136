use Rattle.std.proofs.Common.{[], ◌∷◌}
use Rattle.bank_validity.specs.Limits.{broken_limit}
use Rattle.edit_forms.specs.declared.zones.ZoneStep.TheVariants.{RemoveZone}
use Rattle.edit_forms.specs.declared.step.Step.TheVariants as steps
use Rattle.edit_forms.specs.Causes.{no_such_owner, no_such_zone}
use Rattle.edit_forms.specs.Steps.{raw}
use Rattle.edit_refusals.proofs.Accepted.{by_last}
use Rattle.edit_refusals.proofs.ZoneLaws.{within_remove_zone}
use Rattle.edit_refusals.proofs.zones.refuse_remove_zone.Goals as goal

pub returns : goal.returns
returns c =
    let b = c.args.bank.now in
    let o = c.args.owner in
    let k = c.args.zone in
    let there = c.requires.owner in
    by_last (no_such_owner b o ∷ []) (no_such_zone b o k) (broken_limit (raw b (steps.Zone o (RemoveZone k))))
    c.no_such_zone.result (there, tt) c.no_such_zone.ensures
    (λ zone. within_remove_zone b o k c.requires.sound (there, (zone, tt)))
