-- Floor division, also of negative numbers.
use Rattle.std.specs.Prelude.{ℕ, ◌+◌, ◌-◌, ◌*◌, ◌/◌, ◌%◌, ◌^◌, ◌≡◌, ◌<◌, ℤ, pos, negsuc, ◌+ℤ◌, ◌*ℤ◌}

-- The quotient, rounded down, by a positive divisor.
abbrev pub floor_div : ℤ → ℕ → ℤ
floor_div (pos a) n = pos (a / n)
floor_div (negsuc a) n = negsuc (a / n)

-- Its remainder, at least zero and below the divisor.
abbrev pub floor_mod : ℤ → ℕ → ℕ
floor_mod (pos a) n = a % n
floor_mod (negsuc a) n = n - 1 - a % n

-- Correctness: the divisor times the quotient, plus the remainder, is the number.
abbrev pub FloorsAreCorrect : Type 0
FloorsAreCorrect = (z : ℤ) (n : ℕ) → 0 < n
    → (pos n *ℤ floor_div z n +ℤ pos (floor_mod z n) ≡ z) × (floor_mod z n < n)

-- A negative number counts as zero.
abbrev pub clamped_at_zero : ℤ → ℕ
clamped_at_zero (pos a) = a
clamped_at_zero (negsuc a) = 0

-- m · 2^k / d, rounded down once, at the end; k may be negative.
abbrev pub scaled : ℕ → ℤ → ℕ → ℕ
scaled m (pos k) d = m * 2 ^ k / d
scaled m (negsuc k) d = m / (d * 2 ^ (k + 1))
