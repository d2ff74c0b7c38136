use Rattle.plan_edits.specs.NeutralRuns.{AddsNeutralEdits}
use Rattle.plan_edits.proofs.links.repair_links.Given as goal

abbrev pub invariant-loop-number : goal.invariant-loop-number
invariant-loop-number l = AddsNeutralEdits l.fn.draft l.draft
