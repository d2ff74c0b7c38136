use Rattle.std.proofs.Common.{subst, sym}
use Rattle.bank_changes.specs.SampleMoves.{IsOrder, list_moved}
use Rattle.bank_changes.proofs.SampleMoveLaws.{all_indexes, one_arranged, order_in_vec}
use Rattle.bank_changes.proofs.sample_moves.arranged_samples.Goals as goal

pub copies_in_order-requires : goal.copies_in_order-requires
copies_in_order-requires c =
    let samples = c.args.samples.now in
    let arranged = list_moved samples c.args.moves.now in
    let old = c.in_ok-order.order in
    all_indexes samples arranged c.deref.result.now
    (subst (λ order. IsOrder samples order arranged) (sym c.deref.ensures.value)
    (order_in_vec samples c.args.moves.now old.items c.move_indexes.new.order old.len c.requires.within old.ok.0
    c.in_ok-order.ensures c.in_ok-names.ensures.order))

pub returns-clause-samples : goal.returns-clause-samples
returns-clause-samples c =
    let samples = c.args.samples.now in
    let arranged = list_moved samples c.args.moves.now in
    let old = c.in_ok-order.order in
    one_arranged samples c.in_ok-arranged.arranged.items arranged c.deref.result.now c.in_ok-arranged.ensures
    (subst (λ order. IsOrder samples order arranged) (sym c.deref.ensures.value)
    (order_in_vec samples c.args.moves.now old.items c.move_indexes.new.order old.len c.requires.within old.ok.0
    c.in_ok-order.ensures c.in_ok-names.ensures.order))
