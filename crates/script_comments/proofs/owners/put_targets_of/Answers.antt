use Rattle.script_comments.proofs.OwnerLaws.{has_zone, zones_start, zones_step, zones_end}
use Rattle.script_comments.proofs.owners.put_targets_of.Goals as goal

pub loop-k-init : goal.loop-k-init
loop-k-init g c = zones_start c.args.owners.now c.args.i _ _ _ c.args.bank.now g.H.OwnerHead.LEVEL c.requires

pub target-requires : goal.target-requires
target-requires g c =
    has_zone c.args.owners.now c.args.i c.loop-k.k _ c.requires c.zone_count-k-end.ensures c.loop-k-test.true

pub loop-k-preserved : goal.loop-k-preserved
loop-k-preserved g c =
    zones_step c.args.owners.now c.args.i _ _ _ _ _ _ _ c.args.bank.now g.H.OwnerHead.LEVEL c.loop-k.k _ _ c.requires c.zone_count-k-end.ensures
    c.loop-k-test.true c.target.ensures c.loop-k.invariant (rw (c.target-target.ensures, c.LEVEL.ensures) at c.put_numbered-next.ensures)

pub returns : goal.returns
returns g c =
    zones_end c.args.owners.now c.args.i _ _ _ _ _ c.args.bank.now g.H.OwnerHead.LEVEL c.loop-k.k _ c.requires c.zone_count-k-end.ensures
    c.loop-k-test.false c.loop-k.invariant
