use Rattle.std.proofs.Common.{◌≡◌, ◌<◌, ℕ, Some, slice_get}
use Rattle.std.specs.Option.{option_map}
use Rattle.bank_parts.specs.declared.parts.Sample.{Sample}
use Rattle.plan_edits.proofs.same_voices.have_points_of.Given as goal

-- the samples so far have the points
abbrev pub invariant-loop-i : goal.invariant-loop-i
invariant-loop-i l =
    (t : ℕ) → t < l.i → (s : ℕ) → slice_get l.fn.numbers t ≡ Some s
    → option_map (λ (x : Sample). x.points) (slice_get l.fn.to t) ≡ option_map (λ (x : Sample). x.points) (slice_get l.fn.from s)
