use Rattle.base_outputs.proofs.OutputLaws.{puts_then}
use Rattle.show_page.specs.Findings.{finding_text}
use Rattle.show_page.proofs.findings.put_finding.Goals as goal

pub returns : goal.returns
unfolding finding_text
returns g c =
    puts_then _ _ c.put.ensures
    (puts_then _ _ (rw c.member.ensures at c.put_member.ensures)
    (puts_then _ _ (rw c.zone_of.ensures at c.put_zone.ensures)
    (puts_then _ _ c.put-2.ensures (puts_then _ _ c.put_message.ensures c.put-3.ensures))))
