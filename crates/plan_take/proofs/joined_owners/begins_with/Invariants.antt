use Rattle.std.proofs.Common.{◌≡◌, ℕ, ◌<◌, slice_get}
use Rattle.plan_take.proofs.joined_owners.begins_with.Given as goal

-- the members so far are the same
abbrev pub invariant-loop-i : goal.invariant-loop-i
invariant-loop-i g l = (m : ℕ) → m < l.i → slice_get l.fn.all m ≡ slice_get l.fn.first m
