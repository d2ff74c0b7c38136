use Rattle.std.proofs.Common.{length}
use Rattle.show_findings.specs.Uses.{other_link}
use Rattle.show_findings.proofs.GatherLaws.{Options}
use Rattle.show_findings.proofs.uses.links_of.Given as goal

-- the options of the remaining numbers are still to be added
abbrev pub invariant-loop-sample : goal.invariant-loop-sample
invariant-loop-sample l =
    Options (other_link l.bank) (length l.bank.samples) l.initial.found.items l.found.items l.sample
