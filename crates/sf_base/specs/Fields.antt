-- Little-endian numbers within bytes.
use Rattle.std.specs.Prelude.{ℕ, List, drop}
use Rattle.byteorder.specs.Endian.{little_number}

-- The little-endian number in the n bytes at offset `at`.
abbrev pub field_at : ℕ → ℕ → List ℕ → ℕ
field_at at n bytes = little_number n (drop at bytes)
