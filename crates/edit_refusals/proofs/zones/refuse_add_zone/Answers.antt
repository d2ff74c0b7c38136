use Rattle.std.proofs.Common.{sym}
use Rattle.edit_forms.specs.declared.zones.ZoneStep.TheVariants.{AddZone}
use Rattle.edit_forms.specs.declared.step.Step.TheVariants as steps
use Rattle.edit_forms.specs.Steps.{causes}
use Rattle.edit_refusals.proofs.Accepted.{NoneApplies, by_limit}
use Rattle.edit_refusals.proofs.ZoneLaws.{add_zone_allowed}
use Rattle.edit_refusals.proofs.zones.refuse_add_zone.Goals as goal

pub returns : goal.returns
returns c =
    let b = c.args.bank.now in
    let o = c.args.owner in
    let zone = c.args.zone.now in
    let place = rw c.zone_total.ensures at c.in_ok-bad_insert_index.ensures in
    let operators = rw c.level.ensures at c.in_ok-bad_zone_generator.ensures in
    let tests : NoneApplies (causes b (steps.Zone o (AddZone c.args.at zone))) =
    (c.requires.owner, (c.in_ok-no_such_target_of.ensures, (place, (operators, (c.in_ok-bad_zone_range.ensures, tt))))) in
    by_limit b (steps.Zone o (AddZone c.args.at zone)) c.broken_with_zone.result c.full.result tests
    (sym (c.broken_with_zone.ensures c.args.at (add_zone_allowed b o c.args.at zone tests).place)) c.full.ensures
