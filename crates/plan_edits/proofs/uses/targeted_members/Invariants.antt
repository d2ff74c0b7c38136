use Rattle.std.proofs.Common.{◌≡◌, length}
use Rattle.plan_edits.specs.Uses.{OnlyTargetsMarked}
use Rattle.plan_edits.proofs.uses.targeted_members.Given as goal

abbrev pub invariant-loop-i : goal.invariant-loop-i
invariant-loop-i g l = (length l.marks.items ≡ l.fn.count) × OnlyTargetsMarked l.owners l.marks.items
