use Rattle.std.proofs.Common.{◌≡◌, ℕ, ◌<◌, ◌+◌}
use Rattle.bank_parts.specs.Owners.{head_at}
use Rattle.plan_take.proofs.joined_owners.have_added_names.Given as goal

-- the instruments so far have the names
abbrev pub invariant-loop-i : goal.invariant-loop-i
invariant-loop-i l = (m : ℕ) → m < l.i → head_at l.fn.all (l.fn.first + m) ≡ head_at l.fn.added m
