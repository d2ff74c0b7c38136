use Rattle.plan_edits.specs.Uses.{OnlyTargetsMarked}
use Rattle.plan_edits.proofs.uses.mark_targets.Given as goal

abbrev pub invariant-loop-k : goal.invariant-loop-k
invariant-loop-k g l = OnlyTargetsMarked l.owners l.initial.marks → OnlyTargetsMarked l.owners l.marks
