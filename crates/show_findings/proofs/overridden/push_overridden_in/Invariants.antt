use Rattle.show_findings.specs.Overridden.{overridden_generator}
use Rattle.show_findings.proofs.GatherLaws.{Found}
use Rattle.show_findings.proofs.overridden.push_overridden_in.Given as goal

-- the findings of the remaining generators are still to be added
abbrev pub invariant-loop-entry : goal.invariant-loop-entry
invariant-loop-entry l =
    Found (overridden_generator l.bank l.owner) l.entries l.initial.found.items l.found.items l.entry-index
