-- Bounds of sums of voices.
use Rattle.std.specs.Prelude.{ℕ, ◌*◌, ◌<◌, ◌≤ℤ◌, ℤ, pos, neg_ℤ, List, length, slice_index_or}

-- z is a possible sum of j voices
abbrev pub IsWithin : ℕ → ℤ → Type 0
IsWithin j z = (neg_ℤ (pos (32768 * j)) ≤ℤ z) × (z ≤ℤ pos (32768 * j))

-- each sum is a possible sum of j voices
abbrev pub AllWithin : ℕ → List ℤ → Type 0
AllWithin j sums = (k : ℕ) → k < length sums → IsWithin j (slice_index_or sums k (pos 0))
