use Rattle.std.proofs.Common.{◌≡◌, ℕ, ◌<◌, ◌+◌}
use Rattle.std.specs.Option.{option_map}
use Rattle.bank_parts.specs.Owners.{head_at}
use Rattle.plan_take.specs.Shifted.{bank_shifted}
use Rattle.plan_take.proofs.joined_owners.have_added_heads.Given as goal

-- the presets so far have the heads
abbrev pub invariant-loop-i : goal.invariant-loop-i
invariant-loop-i l =
    (m : ℕ) → m < l.i → head_at l.fn.all (l.fn.first + m) ≡ option_map (bank_shifted l.fn.shift) (head_at l.fn.added m)
