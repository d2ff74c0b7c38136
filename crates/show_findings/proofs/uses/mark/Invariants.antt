use Rattle.show_findings.proofs.MarkLaws.{Marks}
use Rattle.show_findings.proofs.uses.mark.Given as goal

-- the numbers so far are marked
abbrev pub invariant-loop-number : goal.invariant-loop-number
invariant-loop-number l = Marks l.initial.used l.used l.numbers l.number-index
