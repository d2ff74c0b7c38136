use Rattle.show_listing.proofs.ZoneLaws.{zones_start, zones_more, zones_end, has_zone}
use Rattle.show_listing.proofs.zones.put_own_zones.Goals as goal

pub loop-k-init : goal.loop-k-init
loop-k-init g c = zones_start g.H.ListedHead.word c.args.owners.now c.args.i _ _ c.requires

pub put_zone-requires : goal.put_zone-requires
put_zone-requires g c =
    has_zone g.H.ListedHead.word c.args.owners.now c.args.i c.loop-k.k _ c.requires c.zone_count-k-end.ensures
    c.loop-k-test.true

pub loop-k-preserved : goal.loop-k-preserved
loop-k-preserved g c =
    zones_more g.H.ListedHead.word c.args.owners.now c.args.i _ _ _ _ c.loop-k.k _ c.requires
    c.zone_count-k-end.ensures c.loop-k-test.true c.loop-k.invariant c.put_zone.ensures

pub returns : goal.returns
returns g c =
    zones_end g.H.ListedHead.word c.args.owners.now c.args.i _ _ _ c.loop-k.k _ c.requires c.zone_count-k-end.ensures
    c.loop-k-test.false c.loop-k.invariant
