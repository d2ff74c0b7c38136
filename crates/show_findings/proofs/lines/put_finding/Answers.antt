use Rattle.base_outputs.proofs.OutputLaws.{puts_then}
use Rattle.show_findings.specs.Lines.{finding_line}
use Rattle.show_findings.proofs.lines.put_finding.Goals as goal

pub returns : goal.returns
unfolding finding_line
returns g c =
    let subject = rw c.subject_of.ensures at c.put_subject.ensures in
    puts_then _ _ subject
    (puts_then _ _ c.put_message.ensures (puts_then _ _ c.put_repair.ensures c.put.ensures))
