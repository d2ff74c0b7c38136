use Rattle.std.proofs.Common.{drop}
use Rattle.bank_edits.proofs.GroupLaws.{SoFar}
use Rattle.bank_edits.proofs.groups.change_all.Given as goal

abbrev pub invariant-loop-index : goal.invariant-loop-index
invariant-loop-index l = SoFar l.index l.fn.bank l.bank l.steps (drop l.index l.steps) l.inverses.items
