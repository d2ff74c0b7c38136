use Rattle.std.proofs.Common.{sym, ◌<◌}
use Rattle.edit_forms.specs.declared.zones.ZoneStep.TheVariants.{SplitZone}
use Rattle.edit_forms.specs.declared.step.Step.TheVariants as steps
use Rattle.edit_forms.specs.Causes.{zone_total}
use Rattle.edit_forms.specs.Steps.{causes}
use Rattle.edit_refusals.proofs.Accepted.{NoneApplies, by_limit, below}
use Rattle.edit_refusals.proofs.ZoneLaws.{total_there, can_of_split}
use Rattle.edit_refusals.proofs.zones.refuse_split_zone.Goals as goal

pub broken_with_split-requires : goal.broken_with_split-requires
broken_with_split-requires c =
    let b = c.args.bank.now in
    let o = c.args.owner in
    let k = c.args.zone in
    total_there b o (λ count. k < count) c.requires.owner (below (zone_total b o) k c.in_ok-no_such_zone.ensures)

pub returns : goal.returns
returns c =
    let b = c.args.bank.now in
    let o = c.args.owner in
    let k = c.args.zone in
    let axis = c.args.axis in
    let m = c.args.at in
    let tests : NoneApplies (causes b (steps.Zone o (SplitZone k axis m))) =
    (c.requires.owner, (c.in_ok-no_such_zone.ensures, (c.in_ok-split_outside.ensures, tt))) in
    by_limit b (steps.Zone o (SplitZone k axis m)) c.broken_with_split.result c.full.result tests
    (sym (c.broken_with_split.ensures m (can_of_split b o k axis m tests))) c.full.ensures
