use Rattle.plan_edits.specs.NeutralRuns.{AddsNeutralEdits}
use Rattle.plan_edits.proofs.joins.join_presets.Given as goal

abbrev pub invariant-loop-preset : goal.invariant-loop-preset
invariant-loop-preset l = AddsNeutralEdits l.fn.draft l.draft
