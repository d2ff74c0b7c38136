use Rattle.script_comments.proofs.OwnerLaws.{ListingZones}
use Rattle.script_comments.proofs.owners.put_targets_of.Given as goal

-- the targets of the remaining zones are still to be put
abbrev pub invariant-loop-k : goal.invariant-loop-k
invariant-loop-k g l =
    ListingZones l.owners l.i g.W.Write.contents l.initial.output l.output l.fn.lead l.next l.bank g.H.OwnerHead.LEVEL l.k
