use Rattle.plan_edits.specs.NeutralRuns.{AddsNeutralEdits}
use Rattle.plan_edits.proofs.joins.join_in_turn.Given as goal

abbrev pub invariant-loop-zone : goal.invariant-loop-zone
invariant-loop-zone l = AddsNeutralEdits l.fn.draft l.draft
