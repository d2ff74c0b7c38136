use Rattle.std.proofs.Common.{◌<◌, ◌≤◌, ◌*◌, arith}
use Rattle.base_outputs.proofs.OutputLaws.{puts_as, puts_nothing, putting_from, putting_step, putting_last}
use Rattle.show_sample.specs.Seams.{side_count, dot, seam}
use Rattle.show_sample.proofs.Ranges.{texts_from_0, texts_next, texts_past}
use Rattle.show_sample.proofs.seams.put_seam.Goals as goal

pub loop-index-init : goal.loop-index-init
unfolding seam
loop-index-init g c =
    putting_from _ _ (texts_from_0 (dot c.args.points.now c.args.looped) (2 * side_count c.args.looped))

pub loop-index-preserved : goal.loop-index-preserved
loop-index-preserved g c =
    let count = c.side_count-index-end.ensures in
    let test = c.loop-index-test.true in
    let lt : c.loop-index.index < 2 * side_count c.args.looped = omega (arith, count, test) in
    putting_step _ _ c.loop-index.invariant
    (texts_next (dot c.args.points.now c.args.looped) c.loop-index.index (2 * side_count c.args.looped) lt)
    c.put_dot.ensures

pub returns : goal.returns
returns g c =
    let count = c.side_count-index-end.ensures in
    let test = c.loop-index-test.false in
    let le : 2 * side_count c.args.looped ≤ c.loop-index.index = omega (arith, count, test) in
    putting_last c.loop-index.invariant
    (puts_as _ _ (texts_past (dot c.args.points.now c.args.looped) c.loop-index.index (2 * side_count c.args.looped) le)
    (puts_nothing _))
