use Rattle.std.proofs.Common.{◌+◌, take, get_or, Some, refl, sym, ◌∙◌, ap, subst}
use Rattle.std.proofs.lemmas.Option.{slice_get_read}
use Rattle.bank_changes.specs.SampleMoves.{IsOrder}
use Rattle.bank_changes.proofs.SampleMoveLaws.{copied_more}
use Rattle.bank_changes.proofs.sample_moves.copies_in_order.Goals as goal

pub loop-index-preserved : goal.loop-index-preserved
loop-index-preserved c =
    let samples = c.args.samples.now in
    let order = c.args.order.now in
    let k = c.loop-index.index-index in
    let copy = c.in_ok-try_clone.field-0 in
    let there =
    slice_get_read samples _ (get_or order k 0) c.index-samples-index.result refl (c.requires k 0 c.loop-index-test.true)
    c.index-samples-index.is in
    subst (λ copies. IsOrder samples (take (k + 1) order) copies) (sym c.in_ok-push.ensures.items)
    (copied_more samples c.loop-index.copies.items order k 0 copy c.loop-index-test.true
    (there ∙ ap Some (sym c.in_ok-try_clone.ensures)) c.loop-index.invariant)
