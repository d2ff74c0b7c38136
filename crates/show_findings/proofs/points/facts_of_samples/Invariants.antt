use Rattle.std.proofs.Common.{◌≡◌, take}
use Rattle.show_findings.specs.Scans.{facts_of_samples}
use Rattle.show_findings.proofs.points.facts_of_samples.Given as goal

abbrev pub invariant-loop-sample : goal.invariant-loop-sample
invariant-loop-sample l = l.found.items ≡ facts_of_samples (take l.sample-index l.samples)
