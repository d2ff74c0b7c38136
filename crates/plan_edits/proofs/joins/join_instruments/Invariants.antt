use Rattle.plan_edits.specs.NeutralRuns.{AddsNeutralEdits}
use Rattle.plan_edits.proofs.joins.join_instruments.Given as goal

abbrev pub invariant-loop-instrument : goal.invariant-loop-instrument
invariant-loop-instrument l = AddsNeutralEdits l.fn.draft l.draft
