use Rattle.std.proofs.Common.{List, Err, subst}
use Rattle.bank_parts.specs.declared.parts.Parts.{Parts}
use Rattle.show_findings.specs.declared.finding.Finding.{Finding}
use Rattle.sfbank.specs.Findings.{finding_lines}
use Rattle.sfbank.specs.FolderPlans.{bank_outcome}
use Rattle.sfbank.specs.Outputs.{PrintsAt}
use Rattle.sfbank.specs.PlanParts.{standard_output, with_findings}
use Rattle.sfbank.proofs.Findings.{findings_end, findings_found}
use Rattle.sfbank.proofs.OutcomeLaws.{outcome_fails}
use Rattle.sfbank.proofs.program.check.print_findings.Goals as goal

pub returns-in-Ok : goal.returns-in-Ok
returns-in-Ok g c files written =
    let checked = c.in-Ok.checked in
    let old = g.O.Write.contents c.args.output.now in
    let new = g.O.Write.contents c.print.new.output in
    let fault = c.in-Err-print.fault in
    let printed = subst (λ (b : Parts). PrintsAt {U = Unit {0}} standard_output (finding_lines b c.lines.result.findings.now)
    old new (Err fault)) c.lines.ensures.bank c.in-Err-print.ensures in
    findings_end c.args.paths checked.bank checked.findings.items (bank_outcome c.args.file.now) files old new written
    (Err fault) c.in-Ok.ensures.0 c.in-Ok.ensures.1 (λ u done. absurd cc)
    (subst (λ (fs : List Finding). PrintsAt {U = Unit {0}} standard_output (finding_lines checked.bank fs) old new (Err fault))
    c.lines.ensures.findings printed)
