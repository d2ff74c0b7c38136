use Rattle.std.proofs.Common.{ℕ, ◌<◌, ◌+◌, slice_get}
use Rattle.plan_take.specs.Matches.{AreBoth, Renumbered}
use Rattle.plan_take.proofs.joined_owners.have_added_zones.Given as goal

-- the owners so far have the zones
abbrev pub invariant-loop-i : goal.invariant-loop-i
invariant-loop-i g l =
    (m : ℕ) → m < l.i
    → AreBoth (Renumbered l.fn.targets) (slice_get l.fn.added m) (slice_get l.fn.all (l.fn.first + m))
