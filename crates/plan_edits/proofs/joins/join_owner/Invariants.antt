use Rattle.plan_edits.specs.NeutralRuns.{AddsNeutralEdits}
use Rattle.plan_edits.proofs.joins.join_owner.Given as goal

abbrev pub invariant-loop-pass : goal.invariant-loop-pass
invariant-loop-pass l = AddsNeutralEdits l.fn.draft l.draft
