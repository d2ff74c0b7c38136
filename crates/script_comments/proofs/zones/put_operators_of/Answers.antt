use Rattle.std.proofs.Common.{ap}
use Rattle.std.specs.List.{flat_map}
use Rattle.script_comments.specs.Zones.{zones_have}
use Rattle.script_comments.proofs.RowLaws.{no_row}
use Rattle.script_comments.proofs.ItemLaws.{listing_start, listing_member, listing_over, listed_row, items_as}
use Rattle.script_comments.proofs.zones.put_operators_of.Goals as goal

pub loop-row-init : goal.loop-row-init
loop-row-init g c = listing_start (flat_map (listed_row (zones_have c.args.global.now c.args.zones.now)) c.usable_generators-rows.result.now)

pub loop-row-preserved : goal.loop-row-preserved
loop-row-preserved g c =
    listing_member (listed_row (zones_have c.args.global.now c.args.zones.now)) c.usable_generators-rows.result.now c.loop-row.row-index no_row
    c.loop-row.invariant c.loop-row-test.true (rw c.zones_have-is_listed.ensures at c.put_if_listed-next.ensures)

pub returns : goal.returns
returns g c =
    items_as _ _ (ap (flat_map (listed_row (zones_have c.args.global.now c.args.zones.now))) c.usable_generators-rows.ensures)
    (listing_over (listed_row (zones_have c.args.global.now c.args.zones.now)) c.usable_generators-rows.result.now c.loop-row.row-index
    c.loop-row.invariant c.loop-row-test.false)
