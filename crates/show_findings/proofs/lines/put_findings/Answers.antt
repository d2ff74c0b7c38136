use Rattle.std.proofs.Common.{[], drop, ap, sym}
use Rattle.std.specs.List.{flat_map}
use Rattle.std.proofs.lemmas.List.{drop_all}
use Rattle.base_outputs.proofs.OutputLaws.{puts_as, puts_nothing, putting_member, putting_last}
use Rattle.show_findings.specs.Lines.{finding_line}
use Rattle.show_findings.proofs.lines.put_findings.Goals as goal

pub loop-finding-preserved : goal.loop-finding-preserved
loop-finding-preserved g c =
    putting_member (finding_line c.args.bank.now) c.args.findings.now c.loop-finding.finding-index _
    c.loop-finding.invariant c.loop-finding-test.true c.put_finding.ensures

pub returns : goal.returns
returns g c =
    let end =
    ap (flat_map (finding_line c.args.bank.now))
    (drop_all c.loop-finding.finding-index c.args.findings.now c.loop-finding-test.false) in
    putting_last c.loop-finding.invariant
    (puts_as [] (flat_map (finding_line c.args.bank.now) (drop c.loop-finding.finding-index c.args.findings.now))
    (sym end) (puts_nothing _))
