use Rattle.show_listing.proofs.TargetLaws.{Gathers}
use Rattle.show_listing.proofs.counting.push_targets.Given as goal

-- the targets of the remaining zones are still to be collected
abbrev pub invariant-loop-k : goal.invariant-loop-k
invariant-loop-k g l = Gathers l.owners l.i l.initial.found.items l.found.items l.k
