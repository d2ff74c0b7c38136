use Rattle.std.proofs.Common.{subst, sym}
use Rattle.std.specs.List.Sorted.{IsPermutation}
use Rattle.plan_edits.proofs.TimeLaws.{all_taken}
use Rattle.plan_edits.proofs.distinct_notes.distinct.Goals as goal

pub returns : goal.returns
returns c n =
    let items = c.as_slice-note-items.result.now in
    all_taken c.loop-note.distinct.items items c.in_ok-sorted.sorted.items c.args.notes.now c.loop-note.note-index n
    (c.loop-note.invariant n) c.loop-note-test.false
    (subst (λ xs. IsPermutation c.in_ok-sorted.sorted.items xs) (sym c.as_slice-note-items.ensures.value)
    c.in_ok-sort_by_key.ensures.permutation)
    c.in_ok-sorted.ensures.items
