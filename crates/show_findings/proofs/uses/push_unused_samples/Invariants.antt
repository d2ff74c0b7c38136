use Rattle.std.proofs.Common.{length}
use Rattle.show_findings.specs.Uses.{unused_sample}
use Rattle.show_findings.proofs.GatherLaws.{Options}
use Rattle.show_findings.proofs.uses.push_unused_samples.Given as goal

-- the options of the remaining numbers are still to be added
abbrev pub invariant-loop-sample : goal.invariant-loop-sample
invariant-loop-sample l =
    Options (unused_sample l.bank) (length l.bank.samples) l.initial.found.items l.found.items l.sample
