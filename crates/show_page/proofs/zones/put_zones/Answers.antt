use Rattle.show_page.proofs.ZoneLaws.{putting_zones_start, putting_zones_step, putting_zones_end, has_zone}
use Rattle.show_page.proofs.zones.put_zones.Goals as goal

pub loop-k-init : goal.loop-k-init
loop-k-init g c = putting_zones_start c.args.owners.now c.args.i _ _ c.requires

pub put_zone-requires : goal.put_zone-requires
put_zone-requires g c =
    has_zone c.args.owners.now c.args.i c.loop-k.k _ c.requires c.zone_count-k-end.ensures c.loop-k-test.true

pub loop-k-preserved : goal.loop-k-preserved
loop-k-preserved g c =
    putting_zones_step c.args.owners.now c.args.i _ _ _ _ c.loop-k.k _ c.requires c.zone_count-k-end.ensures
    c.loop-k-test.true c.loop-k.invariant c.put_zone.ensures

pub returns : goal.returns
returns g c =
    putting_zones_end c.args.owners.now c.args.i _ _ _ c.loop-k.k _ c.requires c.zone_count-k-end.ensures
    c.loop-k-test.false c.loop-k.invariant
