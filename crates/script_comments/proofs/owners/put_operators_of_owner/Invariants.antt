use Rattle.script_comments.proofs.OwnerLaws.{ListingRows}
use Rattle.script_comments.proofs.owners.put_operators_of_owner.Given as goal

-- the operators of the remaining rows are still to be put
abbrev pub invariant-loop-row : goal.invariant-loop-row
invariant-loop-row g l =
    ListingRows l.owners l.i g.W.Write.contents l.initial.output l.output l.fn.lead l.next l.rows l.row-index
