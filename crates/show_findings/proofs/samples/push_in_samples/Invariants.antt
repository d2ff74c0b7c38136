use Rattle.std.proofs.Common.{length}
use Rattle.std.specs.Prelude.{slice_get}
use Rattle.std.specs.Option.{option_and_then}
use Rattle.show_findings.specs.Samples.{sample_finding}
use Rattle.show_findings.proofs.GatherLaws.{Options}
use Rattle.show_findings.proofs.samples.push_in_samples.Given as goal

-- the options of the remaining numbers are still to be added
abbrev pub invariant-loop-number : goal.invariant-loop-number
invariant-loop-number l =
    Options (λ n. option_and_then (sample_finding l.check l.bank n) (slice_get l.bank.samples n)) (length l.bank.samples)
    l.initial.found.items l.found.items l.number
