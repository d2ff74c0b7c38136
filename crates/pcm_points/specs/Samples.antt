-- The exact value of a PCM sample, in points: the full scale of a signed number has 2^16 of them, from -2^15 on.
use Rattle.std.specs.Prelude.{◌+◌, ◌-◌, ◌*◌, ◌/◌, ◌%◌, ◌^◌, ◌==◌, ◌&&◌, if◌then◌else◌, ℕ, Bool, true, false, not}
use Rattle.std.specs.Prelude.{max, nat_lt, nat_le, List}
use Rattle.byteorder.specs.Endian.{little_number}
use Rattle.pcm_points.specs.declared.encoding.SampleEncoding.{SampleEncoding}
use Rattle.pcm_points.specs.declared.encoding.SampleEncoding.TheVariants.{Unsigned8, Signed16, Signed24, Signed32}
use Rattle.pcm_points.specs.declared.encoding.SampleEncoding.TheVariants.{Float32}

-- numerator / denominator, or its negative
pub record Fraction : Type 0 where
  pub is_negative : Bool
  pub numerator : ℕ
  pub denominator : ℕ

-- the same in units of 2^-bits points
abbrev pub finer : ℕ → Fraction → Fraction
finer bits f = record f { numerator = f.numerator * 2 ^ bits }

-- the bytes of a sample
abbrev pub size_of : SampleEncoding → ℕ
size_of Unsigned8 = 1
size_of Signed16 = 2
size_of Signed24 = 3
size_of Signed32 = 4
size_of Float32 = 4

-- ---- integers

-- A number in two's complement of `width` bits: from half the scale on it is negative. The scale has 2^16 points.
abbrev pub integer_fraction : ℕ → ℕ → Fraction
integer_fraction width number =
    if nat_lt (2 * number) (2 ^ width)
    then record { is_negative = false; numerator = 2 ^ 16 * number; denominator = 2 ^ width }
    else record { is_negative = true; numerator = 2 ^ 16 * (2 ^ width - number); denominator = 2 ^ width }

-- ---- IEEE 754 numbers of 32 bits: a sign bit, 8 bits of exponent, 23 bits of fraction

abbrev pub exponent_of : ℕ → ℕ
exponent_of bits = bits / 2 ^ 23 % 2 ^ 8

abbrev pub fraction_of : ℕ → ℕ
fraction_of bits = bits % 2 ^ 23

abbrev pub is_nan : ℕ → Bool
is_nan bits = exponent_of bits == 255 && not (fraction_of bits == 0)

-- in units of its last bit; subnormal numbers lack the implicit bit
abbrev pub significand_of : ℕ → ℕ
significand_of bits = if exponent_of bits == 0 then fraction_of bits else 2 ^ 23 + fraction_of bits

-- The number is significand * 2^(exponent - 127 - 23), and 2^15 points are 1. An infinity counts as the number after
-- the greatest, NaN as 0.
abbrev pub float_fraction : ℕ → Fraction
float_fraction bits =
    record {
      is_negative = nat_le (2 ^ 31) bits;
      numerator = if is_nan bits then 0 else significand_of bits * 2 ^ max (exponent_of bits) 1;
      denominator = 2 ^ 135;
    }

-- ---- samples

-- An unsigned number of 8 bits is the signed one plus 128.
abbrev pub fraction : SampleEncoding → List ℕ → Fraction
fraction Unsigned8 sample = integer_fraction 8 ((little_number 1 sample + 128) % 256)
fraction Signed16 sample = integer_fraction 16 (little_number 2 sample)
fraction Signed24 sample = integer_fraction 24 (little_number 3 sample)
fraction Signed32 sample = integer_fraction 32 (little_number 4 sample)
fraction Float32 sample = float_fraction (little_number 4 sample)
