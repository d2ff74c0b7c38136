use Rattle.std.proofs.Common.{[], ◌∷◌}
use Rattle.bank_validity.specs.Limits.{broken_limit}
use Rattle.edit_forms.specs.declared.zones.ZoneStep.TheVariants.{SetTarget}
use Rattle.edit_forms.specs.declared.step.Step.TheVariants as steps
use Rattle.edit_forms.specs.Causes.{no_such_owner, no_such_target_of, no_such_zone}
use Rattle.edit_forms.specs.Steps.{raw}
use Rattle.edit_refusals.proofs.Accepted.{by_last}
use Rattle.edit_refusals.proofs.ZoneLaws.{within_set_target}
use Rattle.edit_refusals.proofs.zones.refuse_set_target.Goals as goal

pub returns : goal.returns
returns c =
    let b = c.args.bank.now in
    let o = c.args.owner in
    let k = c.args.zone in
    let target = c.args.target in
    let there = c.requires.owner in
    let names = c.in_ok-no_such_target_of.ensures in
    by_last (no_such_owner b o ∷ no_such_target_of b o target ∷ []) (no_such_zone b o k)
    (broken_limit (raw b (steps.Zone o (SetTarget k target)))) c.no_such_zone.result (there, (names, tt))
    c.no_such_zone.ensures
    (λ zone. within_set_target b o k target c.requires.sound (there, (names, (zone, tt))))
