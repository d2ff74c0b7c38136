use Rattle.sfbank.proofs.Applying.{SoFar}
use Rattle.sfbank.proofs.edited_bank.apply_each.Given as goal

abbrev pub invariant-loop-line : goal.invariant-loop-line
invariant-loop-line g l = SoFar l.fn.bank l.bank l.fn.lines.items l.line-iterator.rest.items l.inverses.items
