use Rattle.sfbank.proofs.Applying.{EditsSoFar}
use Rattle.sfbank.proofs.edited_bank.apply_accepted.Given as goal

abbrev pub invariant-loop-edit : goal.invariant-loop-edit
invariant-loop-edit l = EditsSoFar l.fn.bank l.bank l.fn.edits.items l.edit-iterator.rest.items l.undo.items
