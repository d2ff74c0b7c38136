use Rattle.std.proofs.Common.{drop}
use Rattle.std.specs.List.{flat_map}
use Rattle.base_outputs.proofs.OutputLaws.{Putting}
use Rattle.show_findings.specs.Lines.{finding_line}
use Rattle.show_findings.proofs.lines.put_findings.Given as goal

-- the lines of the remaining findings are still to be written
abbrev pub invariant-loop-finding : goal.invariant-loop-finding
invariant-loop-finding g l =
    Putting g.W.Write.contents l.initial.output l.output (flat_map (finding_line l.bank) l.findings)
    (flat_map (finding_line l.bank) (drop l.finding-index l.findings))
