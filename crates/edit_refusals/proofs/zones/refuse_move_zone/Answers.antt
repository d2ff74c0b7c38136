use Rattle.std.proofs.Common.{[], ◌∷◌}
use Rattle.bank_validity.specs.Limits.{broken_limit}
use Rattle.edit_forms.specs.declared.zones.ZoneStep.TheVariants.{MoveZone}
use Rattle.edit_forms.specs.declared.step.Step.TheVariants as steps
use Rattle.edit_forms.specs.Causes.{no_such_owner, no_such_zone, bad_member_index, zone_total}
use Rattle.edit_forms.specs.Steps.{raw}
use Rattle.edit_refusals.proofs.Accepted.{by_last}
use Rattle.edit_refusals.proofs.ZoneLaws.{within_move_zone}
use Rattle.edit_refusals.proofs.zones.refuse_move_zone.Goals as goal

pub returns : goal.returns
returns c =
    let b = c.args.bank.now in
    let o = c.args.owner in
    let from = c.args.from in
    let to = c.args.to in
    let there = c.requires.owner in
    let zone = c.in_ok-no_such_zone.ensures in
    by_last (no_such_owner b o ∷ no_such_zone b o from ∷ []) (bad_member_index (zone_total b o) to)
    (broken_limit (raw b (steps.Zone o (MoveZone from to)))) c.bad_member_index.result (there, (zone, tt))
    (rw c.zone_total.ensures at c.bad_member_index.ensures)
    (λ place. within_move_zone b o from to c.requires.sound (there, (zone, (place, tt))))
