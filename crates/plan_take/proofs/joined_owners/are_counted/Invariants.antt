use Rattle.std.proofs.Common.{◌≡◌, ℕ, ◌<◌, ◌+◌}
use Rattle.plan_take.specs.Matches.{HasNumber}
use Rattle.plan_take.proofs.joined_owners.are_counted.Given as goal

-- the numbers so far are counted
abbrev pub invariant-loop-i : goal.invariant-loop-i
invariant-loop-i l = (m : ℕ) → m < l.i → (j : ℕ) → HasNumber l.fn.numbers m j → j ≡ l.fn.first + m
