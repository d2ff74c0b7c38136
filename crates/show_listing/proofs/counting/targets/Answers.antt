use Rattle.std.proofs.Common.{length, ◌<◌, arith}
use Rattle.show_listing.proofs.TargetLaws.{all_more}
use Rattle.show_listing.proofs.counting.targets.Goals as goal

pub loop-i-preserved : goal.loop-i-preserved
loop-i-preserved g c =
    let end = c.len-i-end.ensures in
    let test = c.loop-i-test.true in
    let there : c.loop-i.i < length c.args.owners.now = omega (arith, end, test) in
    all_more c.args.owners.now _ _ c.loop-i.i there c.loop-i.invariant c.in_ok-push_targets.ensures
