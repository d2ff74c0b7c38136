use Rattle.std.proofs.Common.{◌≡◌, ℕ, ◌<◌, slice_get}
use Rattle.std.specs.Option.{option_map}
use Rattle.plan_take.specs.Shifted.{sample_shifted}
use Rattle.plan_take.proofs.joined_samples.are_shifted.Given as goal

-- the samples so far are equal to the others, shifted
abbrev pub invariant-loop-i : goal.invariant-loop-i
invariant-loop-i l = (m : ℕ) → m < l.i → slice_get l.samples m ≡ option_map (sample_shifted l.fn.by) (slice_get l.others m)
