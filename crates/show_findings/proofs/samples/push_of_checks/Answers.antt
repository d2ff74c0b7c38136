use Rattle.show_findings.specs.Samples.{in_samples, sample_finding}
use Rattle.show_findings.proofs.GatherLaws.{lists_more}
use Rattle.show_findings.proofs.samples.push_of_checks.Goals as goal

pub loop-check-preserved : goal.loop-check-preserved
loop-check-preserved c =
    lists_more (λ check. in_samples (sample_finding check c.args.bank.now) c.args.bank.now) c.args.checks.now
    c.args.found.now.items c.loop-check.found.items c.push_in_samples.new.found.items c.loop-check.check-index _
    c.loop-check-test.true c.in_ok-push_in_samples.ensures c.loop-check.invariant
