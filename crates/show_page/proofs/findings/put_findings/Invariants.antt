use Rattle.std.proofs.Common.{drop}
use Rattle.std.specs.List.{flat_map}
use Rattle.base_outputs.proofs.OutputLaws.{Putting}
use Rattle.show_page.specs.Findings.{finding_text}
use Rattle.show_page.proofs.findings.put_findings.Given as goal

-- the lines of the remaining findings are still to be written
abbrev pub invariant-loop-finding : goal.invariant-loop-finding
invariant-loop-finding g l =
    Putting g.W.Write.contents l.initial.output l.output (flat_map finding_text l.findings)
    (flat_map finding_text (drop l.finding-index l.findings))
