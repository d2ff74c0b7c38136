use Rattle.flat_records.proofs.OwnerInsertions.{AreRemaining}
use Rattle.flat_records.proofs.owned.OwnerBags.clear_owner.Given as goal

abbrev pub invariant-loop-left : goal.invariant-loop-left
invariant-loop-left l = AreRemaining l.fn.self.owners l.self.owners l.i l.left

abbrev pub decreases-loop-left : goal.decreases-loop-left
decreases-loop-left l = l.left
