use Rattle.std.proofs.Common.{map}
use Rattle.plan_take.specs.Additions.{AddsPresets}
use Rattle.plan_take.specs.Merging.{taken_shifted}
use Rattle.plan_take.proofs.presets.add_all_presets.Given as goal

abbrev pub invariant-loop-i : goal.invariant-loop-i
invariant-loop-i l = AddsPresets (map (taken_shifted l.fn.shift) l.fn.presets) l.fn.draft l.draft
