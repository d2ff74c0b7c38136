use Rattle.program_reports.specs.Details.{details_text}
use Rattle.program_reports.proofs.ReportedLines.{prefix_written}
use Rattle.program_reports.proofs.reporting.report.Goals as goal

pub returns-in-Words-clause-reported : goal.returns-in-Words-clause-reported
returns-in-Words-clause-reported g c = rw c.in-Words.is (λ words. absurd cc)

pub returns-in_default-clause-reported : goal.returns-in_default-clause-reported
returns-in_default-clause-reported g c =
    λ words. (
      details_text c.shown_details-details.result,
      c.shown_details-details.ensures,
      prefix_written _ _ _ _ c.write_text.ensures,
    )
