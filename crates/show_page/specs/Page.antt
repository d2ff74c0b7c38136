-- A page: constant texts, with the data of a bank between them.
use Rattle.std.specs.Prelude.{ℕ, List, ◌++◌}
use Rattle.bank_parts.specs.declared.parts.Parts.{Parts}
use Rattle.show_findings.specs.declared.finding.Finding.{Finding}
use Rattle.show_page.specs.declared.page_start.TheConstants.{START}
use Rattle.show_page.specs.declared.page_style.TheConstants.{STYLE}
use Rattle.show_page.specs.declared.page_body.TheConstants.{BODY}
use Rattle.show_page.specs.declared.page_script.TheConstants.{SCRIPT}
use Rattle.show_page.specs.declared.page_end.TheConstants.{END}
use Rattle.show_page.specs.Data.{page_data}

unfoldable pub page : Parts → List Finding → List ℕ
page b findings = START.now ++ (STYLE.now ++ (BODY.now ++ (page_data b findings ++ (SCRIPT.now ++ END.now))))
