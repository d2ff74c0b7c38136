use Rattle.std.proofs.Common.{ℕ, ◌<◌, slice_get}
use Rattle.plan_take.specs.Matches.{AreBoth}
use Rattle.plan_take.specs.RemovingDuplicates.{IsSamePreset}
use Rattle.plan_take.proofs.same_presets.are_same_presets.Given as goal

-- the presets so far are the same
abbrev pub invariant-loop-i : goal.invariant-loop-i
invariant-loop-i l =
    (m : ℕ) → m < l.i → AreBoth (IsSamePreset l.fn.instruments) (slice_get l.fn.from m) (slice_get l.fn.to m)
