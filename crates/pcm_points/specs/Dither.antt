-- Triangular dither: noise of up to one point is added to samples of more than 16 bits before they are rounded.
use Rattle.std.specs.Prelude.{◌/◌, ◌%◌, ◌^◌, ℕ, ℤ, pos, ◌+ℤ◌, ◌-ℤ◌, unsigned_abs, nat_lt}
use Rattle.std.specs.Prelude.{if◌then◌else◌, List, map, Option, Some, None}
use Rattle.std.specs.List.{enumerate_from}
use Rattle.std.specs.Int.{w16, cast_unsigned, is_negative}
use Rattle.rand_pcg.specs.Lcg.{started, advance, increment_of}
use Rattle.rand_pcg.specs.Pcg.{multiplier_64, output_xsh_rr}
use Rattle.pcm_points.specs.declared.encoding.SampleEncoding.{SampleEncoding}
use Rattle.pcm_points.specs.Samples.{Fraction, finer, size_of, fraction}
use Rattle.pcm_points.specs.Points.{rounded, point_of, channel_samples, channel_words}

-- ---- one sample

-- a sample in units of 2^-16 points, as a number of 32 bits
abbrev pub wide : SampleEncoding → List ℕ → ℤ
wide encoding sample = rounded 32 (finer 16 (fraction encoding sample))

-- A half of a word less the other half, each uniform below 2^16: in the same units, from -1 to 1 point, mostly near 0.
abbrev pub triangular : ℕ → ℤ
triangular word = pos (word / 2 ^ 16) -ℤ pos (word % 2 ^ 16)

-- a number of these units
abbrev pub fraction_of_units : ℤ → Fraction
fraction_of_units units =
    record { is_negative = is_negative units; numerator = unsigned_abs units; denominator = 2 ^ 16 }

-- the point of a wide sample and the noise of a word
abbrev pub dithered_point : ℕ → ℤ → ℤ
dithered_point word units = point_of (fraction_of_units (units +ℤ triangular word))

-- as the unsigned word of its bits
abbrev pub dithered_word : ℕ → ℤ → ℕ
dithered_word word units = cast_unsigned w16 (dithered_point word units)

-- ---- the samples of a channel

-- word i, from 0, of the generator PCG32 of a seed, whose stream is the channel
abbrev pub noise : ℕ → ℕ → ℕ → ℕ
noise seed channel i =
    output_xsh_rr (advance 64 multiplier_64 i (started 64 multiplier_64 seed (increment_of 64 channel))).state

-- The points of one channel, as unsigned words: word i of the noise is for frame i.
abbrev pub dithered_words : ℕ → SampleEncoding → ℕ → ℕ → List ℕ → List ℕ
dithered_words seed encoding channels channel bytes =
    map (λ frame. dithered_word (noise seed channel frame.0) frame.1)
    (enumerate_from 0 (channel_samples (wide encoding) encoding channels channel bytes))

-- ---- with dither or without

-- The points of one channel, with the dither of a seed where samples are longer than points.
abbrev pub reduced_words : Option ℕ → SampleEncoding → ℕ → ℕ → List ℕ → List ℕ
reduced_words None encoding channels channel bytes = channel_words encoding channels channel bytes
reduced_words (Some seed) encoding channels channel bytes =
    if nat_lt 2 (size_of encoding)
    then dithered_words seed encoding channels channel bytes
    else channel_words encoding channels channel bytes
