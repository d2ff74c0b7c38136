-- Ranges of keys and of velocities, as amounts.
use Rattle.std.specs.Prelude.{ℕ, Bool, ◌≤◌, ◌/◌, ◌%◌, ◌==◌, ◌||◌}

-- The operators whose amounts are ranges.
abbrev pub is_range_operator : ℕ → Bool
is_range_operator op = op == 43 || op == 44

-- Ends in order, of keys or velocities.
abbrev pub AreEnds : ℕ → ℕ → Type 0
AreEnds low high = (low ≤ high) × (high ≤ 127)

-- The low byte is the low end, the high byte the high end.
abbrev pub IsRange : ℕ → Type 0
IsRange amount = AreEnds (amount % 256) (amount / 256)
