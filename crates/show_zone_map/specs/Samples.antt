-- A set of sample numbers, as bits.
use Rattle.std.specs.Prelude.{ℕ, ◌/◌, ◌%◌, Bool, ◌==◌, List, slice_index}
use Rattle.std.specs.Int.{bit_at}

-- the set has a sample: bit s % 64 of word s / 64 is 1
abbrev pub has_sample : List ℕ → ℕ → Bool
has_sample words s = bit_at (slice_index words (s / 64)) (s % 64) == 1
