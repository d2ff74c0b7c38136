use Rattle.std.proofs.Common.{ℕ, ◌<◌, slice_get}
use Rattle.plan_take.specs.Matches.{AreBoth, HasNumber, Renumbered}
use Rattle.plan_take.proofs.comparisons.instruments_match.Given as goal

-- the instruments so far match
abbrev pub invariant-loop-i : goal.invariant-loop-i
invariant-loop-i l =
    (m : ℕ) → m < l.i → (j : ℕ) → HasNumber l.fn.numbers m j
    → AreBoth (Renumbered l.fn.samples) (slice_get l.fn.from m) (slice_get l.fn.to j)
