use Rattle.std.proofs.Common.{[], ◌∷◌, ◌+◌}
use Rattle.bank_validity.specs.Limits.{broken_limit}
use Rattle.edit_forms.specs.declared.zones.ZoneStep.TheVariants.{JoinZone}
use Rattle.edit_forms.specs.declared.step.Step.TheVariants as steps
use Rattle.edit_forms.specs.Causes.{no_such_owner, no_such_zone, not_joinable}
use Rattle.edit_forms.specs.Steps.{raw}
use Rattle.edit_refusals.proofs.Accepted.{by_last}
use Rattle.edit_refusals.proofs.ZoneLaws.{within_join_zone}
use Rattle.edit_refusals.proofs.zones.refuse_join_zone.Goals as goal

pub returns : goal.returns
returns c =
    let b = c.args.bank.now in
    let o = c.args.owner in
    let k = c.args.zone in
    let axis = c.args.axis in
    let keep = c.args.keep in
    let there = c.requires.owner in
    let next = c.in_ok-no_next_zone.ensures in
    by_last (no_such_owner b o ∷ no_such_zone b o (k + 1) ∷ []) (not_joinable b o k axis keep)
    (broken_limit (raw b (steps.Zone o (JoinZone k axis keep)))) c.not_joinable.result (there, (next, tt))
    c.not_joinable.ensures
    (λ joinable. within_join_zone b o k axis keep c.requires.sound (there, (next, (joinable, tt))))
