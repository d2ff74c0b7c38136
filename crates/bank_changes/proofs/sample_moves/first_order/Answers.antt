use Rattle.std.proofs.Common.{◌+◌, take, sym, subst}
use Rattle.bank_changes.specs.SampleMoves.{IsOrder}
use Rattle.bank_changes.proofs.SampleMoveLaws.{order_more}
use Rattle.bank_changes.proofs.sample_moves.first_order.Goals as goal

pub loop-index-preserved : goal.loop-index-preserved
loop-index-preserved c =
    let samples = c.args.samples.now in
    let i = c.loop-index.index in
    subst (λ order. IsOrder samples order (take (i + 1) samples)) (sym c.in_ok-push.ensures.items)
    (order_more samples c.loop-index.order.items i c.loop-index-test.true c.loop-index.invariant)
