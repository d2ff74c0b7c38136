use Rattle.std.proofs.Common.{◌++◌, [], ap, ◌∙◌, arith}
use Rattle.std.specs.List.{cons_option}
use Rattle.zone_select.specs.Remaining.{zones_in}
use Rattle.show_findings.specs.Zones.{unselectable_zone}
use Rattle.show_findings.proofs.GatherLaws.{options_start, options_more, options_all}
use Rattle.show_findings.proofs.zones.push_of_owner.Goals as goal

pub loop-zone-init : goal.loop-zone-init
loop-zone-init c =
    options_start (unselectable_zone c.args.bank.now c.args.owner) (zones_in c.args.bank.now c.args.owner)
    c.args.found.now.items

pub loop-zone-preserved : goal.loop-zone-preserved
loop-zone-preserved c =
    let test = c.loop-zone-test.true in
    let end = c.zones_in-zone-end.ensures.count in
    options_more (unselectable_zone c.args.bank.now c.args.owner) (zones_in c.args.bank.now c.args.owner)
    c.args.found.now.items c.loop-zone.found.items _ c.loop-zone.zone (omega (arith, test, end))
    (c.in_ok-push_option.ensures ∙ ap (λ o. c.loop-zone.found.items ++ cons_option o []) c.unselectable_zone.ensures)
    c.loop-zone.invariant

pub returns : goal.returns
returns c =
    let test = c.loop-zone-test.false in
    let end = c.zones_in-zone-end.ensures.count in
    options_all (unselectable_zone c.args.bank.now c.args.owner) (zones_in c.args.bank.now c.args.owner)
    c.args.found.now.items c.loop-zone.found.items c.loop-zone.zone (omega (arith, test, end)) c.loop-zone.invariant
