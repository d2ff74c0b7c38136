use Rattle.show_findings.specs.Kinds.{AddsKind}
use Rattle.show_findings.proofs.findings.push_of_kind.Given as goal

abbrev pub invariant-loop-finding : goal.invariant-loop-finding
invariant-loop-finding l = AddsKind l.kind l.initial.found.items l.found.items
