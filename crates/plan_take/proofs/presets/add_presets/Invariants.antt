use Rattle.plan_take.specs.Additions.{AddsPresets}
use Rattle.plan_take.proofs.presets.add_presets.Given as goal

abbrev pub invariant-loop-k : goal.invariant-loop-k
invariant-loop-k l = AddsPresets l.fn.presets l.fn.draft l.draft
