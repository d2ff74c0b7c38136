use Rattle.show_findings.specs.Samples.{in_samples, sample_finding}
use Rattle.show_findings.proofs.GatherLaws.{Lists}
use Rattle.show_findings.proofs.samples.push_of_checks.Given as goal

-- the findings of the remaining checks are still to be added
abbrev pub invariant-loop-check : goal.invariant-loop-check
invariant-loop-check l =
    Lists (λ check. in_samples (sample_finding check l.bank) l.bank) l.checks l.initial.found.items l.found.items
    l.check-index
