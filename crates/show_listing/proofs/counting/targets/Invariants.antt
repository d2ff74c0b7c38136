use Rattle.show_listing.proofs.TargetLaws.{GathersAll}
use Rattle.show_listing.proofs.counting.targets.Given as goal

-- the targets of the remaining owners are still to be collected
abbrev pub invariant-loop-i : goal.invariant-loop-i
invariant-loop-i g l = GathersAll l.owners l.found.items l.i
