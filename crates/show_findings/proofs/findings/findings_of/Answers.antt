use Rattle.show_findings.proofs.ListedLaws.{are_findings}
use Rattle.show_findings.proofs.findings.findings_of.Goals as goal

pub returns : goal.returns
returns c =
    are_findings c.args.bank.now c.new-found.result.items c.push_unused_findings.new.found.items
    c.push_zone_findings.new.found.items c.push_sample_findings.new.found.items c.push_equal_samples.new.found.items
    c.new-found.ensures.items c.in_ok-push_unused_findings.ensures c.in_ok-push_zone_findings.ensures
    c.in_ok-push_sample_findings.ensures c.in_ok-push_equal_samples.ensures
