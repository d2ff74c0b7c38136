use Rattle.std.proofs.Common.{ap}
use Rattle.std.specs.List.{flat_map}
use Rattle.script_comments.specs.Zones.{zone_has}
use Rattle.script_comments.proofs.RowLaws.{no_row}
use Rattle.script_comments.proofs.ItemLaws.{listing_start, listing_member, listing_over, listed_row, items_as}
use Rattle.script_comments.proofs.zones.put_operators_in.Goals as goal

pub loop-row-init : goal.loop-row-init
loop-row-init g c = listing_start (flat_map (listed_row (λ op. zone_has op c.args.zone.now)) c.usable_generators-rows.result.now)

pub loop-row-preserved : goal.loop-row-preserved
loop-row-preserved g c =
    listing_member (listed_row (λ op. zone_has op c.args.zone.now)) c.usable_generators-rows.result.now c.loop-row.row-index no_row
    c.loop-row.invariant c.loop-row-test.true (rw c.zone_has-is_listed.ensures at c.put_if_listed-next.ensures)

pub returns : goal.returns
returns g c =
    items_as _ _ (ap (flat_map (listed_row (λ op. zone_has op c.args.zone.now))) c.usable_generators-rows.ensures)
    (listing_over (listed_row (λ op. zone_has op c.args.zone.now)) c.usable_generators-rows.result.now c.loop-row.row-index
    c.loop-row.invariant c.loop-row-test.false)
