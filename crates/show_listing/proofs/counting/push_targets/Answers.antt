use Rattle.show_listing.proofs.TargetLaws.{gathers_more, gathers_all}
use Rattle.show_listing.proofs.counting.push_targets.Goals as goal

pub loop-k-preserved : goal.loop-k-preserved
loop-k-preserved g c =
    gathers_more c.args.owners.now c.args.i c.loop-k.k _ _ _ _ _ c.requires c.zone_count-k-end.ensures
    c.loop-k-test.true c.target.ensures c.in_ok-push.ensures.items c.loop-k.invariant

pub returns : goal.returns
returns g c =
    gathers_all c.args.owners.now c.args.i c.loop-k.k _ _ _ c.requires c.zone_count-k-end.ensures c.loop-k-test.false
    c.loop-k.invariant
