-- Integers of all encodings as numbers of 32 bits that count from the least one. Their highest bits are the sample's.
use Rattle.std.specs.Prelude.{◌+◌, ◌-◌, ◌*◌, ◌%◌, ◌^◌, ℕ, Bool, true, false, List}
use Rattle.std.specs.Int.{w16, cast_unsigned}
use Rattle.byteorder.specs.Endian.{little_number}
use Rattle.pcm_points.specs.declared.encoding.SampleEncoding.{SampleEncoding}
use Rattle.pcm_points.specs.declared.encoding.SampleEncoding.TheVariants.{Unsigned8, Signed16, Signed24, Signed32}
use Rattle.pcm_points.specs.declared.encoding.SampleEncoding.TheVariants.{Float32}
use Rattle.pcm_points.specs.Samples.{size_of, integer_fraction}
use Rattle.pcm_points.specs.Points.{point_of}

abbrev pub is_integer : SampleEncoding → Bool
is_integer Unsigned8 = true
is_integer Signed16 = true
is_integer Signed24 = true
is_integer Signed32 = true
is_integer Float32 = false

-- the bits above those of a sample
abbrev pub shift_of : SampleEncoding → ℕ
shift_of encoding = 32 - 8 * size_of encoding

-- where 0 is in such numbers, for a sample in two's complement
abbrev pub bias_of : SampleEncoding → ℕ
bias_of Unsigned8 = 0
bias_of Signed16 = 2 ^ 31
bias_of Signed24 = 2 ^ 31
bias_of Signed32 = 2 ^ 31
bias_of Float32 = 0

-- the number of 4 bytes that begin with a sample; those after it fall out
abbrev pub aligned : ℕ → ℕ → ℕ → ℕ
aligned shift bias window = (window * 2 ^ shift % 2 ^ 32 + bias) % 2 ^ 32

-- the point of such a number, as the unsigned word of its bits
abbrev pub number_word : ℕ → ℕ
number_word number = cast_unsigned w16 (point_of (integer_fraction 32 ((number + 2 ^ 31) % 2 ^ 32)))

-- that of the sample at the start of the bytes
abbrev pub window_word : SampleEncoding → List ℕ → ℕ
window_word encoding bytes = number_word (aligned (shift_of encoding) (bias_of encoding) (little_number 4 bytes))
