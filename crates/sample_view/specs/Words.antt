-- 16-bit numbers and their little-endian bytes.
use Rattle.std.specs.Prelude.{ℕ, ◌+◌, ◌*◌, ◌/◌, ◌%◌, ◌^◌, ◌<◌, List, [], ◌∷◌}
use Rattle.std.specs.List.{AllByRecursion}

-- The numbers that the bytes encode; a last byte alone is ignored.
unfoldable pub words : List ℕ → List ℕ
words [] = []
words (low ∷ []) = []
words (low ∷ high ∷ rest) = (low + 256 * high) ∷ words rest

-- The two bytes of a number.
unfoldable pub word_bytes : ℕ → List ℕ
word_bytes n = (n % 256) ∷ (n / 256) ∷ []

-- Each number fits into 16 bits.
abbrev pub AreWords : List ℕ → Type 0
AreWords ws = AllByRecursion (λ w. w < 2 ^ 16) ws
