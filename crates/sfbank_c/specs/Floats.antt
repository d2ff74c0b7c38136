-- 16-bit values as floats.
use Rattle.std.specs.Prelude.{◌≡◌, ◌<◌, ◌+◌, ◌*◌, ◌^◌, ℕ, suc, ℤ, pos, negsuc, List, length, false, true, slice_index_or}
use Rattle.std.specs.Float.{Float, binary32, fin, float_zero}
use Rattle.std.specs.Float.Ieee
use lib.Ieee.Exact.{HasValue}

-- 2 ^ -15 times the value
unfoldable pub scaled : ℤ → Float
scaled v = Ieee.mul binary32 (fin false 1 (negsuc 14)) (Ieee.of_int binary32 v)

-- float k of each side is the scaled value of frame k
abbrev pub AreSides : List ℤ → List Float → List Float → Type 0
AreSides frames left right =
    (k : ℕ) → k < length left
    → (slice_index_or left k float_zero ≡ scaled (slice_index_or frames (2 * k) (pos 0)))
    × (slice_index_or right k float_zero ≡ scaled (slice_index_or frames (2 * k + 1) (pos 0)))

-- the float is the value divided by 32,768, exactly
abbrev pub IsQuotient : ℤ → Float → Type 0
IsQuotient (pos n) x = HasValue x false n 32768
IsQuotient (negsuc n) x = HasValue x true (suc n) 32768

-- the value has 16 bits
abbrev pub Is16 : ℤ → Type 0
Is16 (pos n) = n < 2 ^ 15
Is16 (negsuc n) = n < 2 ^ 15

-- scaled 16-bit values are exact
abbrev pub ScaledIsExact : Type 0
ScaledIsExact = (v : ℤ) → Is16 v → IsQuotient v (scaled v)
