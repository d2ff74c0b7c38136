use Rattle.base_outputs.proofs.OutputLaws.{putting_member}
use Rattle.show_findings.specs.declared.finding.Finding.{Finding}
use Rattle.show_findings.specs.declared.finding.Finding.TheVariants.{HiddenPreset}
use Rattle.show_page.specs.Findings.{finding_text}
use Rattle.show_page.proofs.Loops.{putting_all}
use Rattle.show_page.proofs.findings.put_findings.Goals as goal

-- what an index past the end is read as
abbrev no_finding : Finding
no_finding = HiddenPreset 0 0

pub loop-finding-preserved : goal.loop-finding-preserved
loop-finding-preserved g c =
    putting_member finding_text c.args.findings.now c.loop-finding.finding-index no_finding c.loop-finding.invariant
    c.loop-finding-test.true c.put_finding.ensures

pub returns : goal.returns
returns g c =
    putting_all finding_text c.args.findings.now c.loop-finding.finding-index c.loop-finding.invariant
    c.loop-finding-test.false
