use Rattle.script_comments.specs.Names.{target_of, numbered}
use Rattle.script_comments.specs.Zones.{target_items}
use Rattle.script_comments.proofs.ItemLaws.{listing_start, listing_item, listing_over}
use Rattle.script_comments.proofs.zones.put_targets.Goals as goal

pub loop-zone-init : goal.loop-zone-init
loop-zone-init g c = listing_start (target_items c.args.bank.now c.args.level c.args.zones.now)

pub loop-zone-preserved : goal.loop-zone-preserved
loop-zone-preserved g c =
    listing_item (λ z. numbered c.args.bank.now (target_of c.args.level z.target)) c.args.zones.now
    c.zone-item.result c.loop-zone.zone-index c.loop-zone.invariant c.loop-zone-test.true c.zone-item.is
    (rw c.target.ensures at c.put_numbered-next.ensures)

pub returns : goal.returns
returns g c =
    listing_over (λ z. numbered c.args.bank.now (target_of c.args.level z.target)) c.args.zones.now
    c.loop-zone.zone-index c.loop-zone.invariant c.loop-zone-test.false
