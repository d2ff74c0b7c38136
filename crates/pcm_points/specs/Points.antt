-- The 16-bit points of samples.
use Rattle.std.specs.Prelude.{◌+◌, ◌-◌, ◌*◌, ◌/◌, ◌^◌, if◌then◌else◌, ℕ, ℤ, pos, neg_ℤ, Bool, min, List, take, drop}
use Rattle.std.specs.Int.{w16, cast_unsigned}
use Rattle.hydra_records.specs.Records.{records}
use Rattle.pcm_points.specs.declared.encoding.SampleEncoding.{SampleEncoding}
use Rattle.pcm_points.specs.Samples.{Fraction, size_of, fraction}

-- ---- one sample

-- n / d to the nearest whole number, a half upwards
abbrev pub nearest : ℕ → ℕ → ℕ
nearest n d = (2 * n + d) / (2 * d)

-- the greatest magnitudes of numbers of `width` bits
abbrev pub most : ℕ → Bool → ℕ
most width is_negative = if is_negative then 2 ^ (width - 1) else 2 ^ (width - 1) - 1

abbrev pub with_sign : Bool → ℕ → ℤ
with_sign is_negative n = if is_negative then neg_ℤ (pos n) else pos n

-- the nearest whole number, halves away from zero, clipped to `width` bits
abbrev pub rounded : ℕ → Fraction → ℤ
rounded width f = with_sign f.is_negative (min (nearest f.numerator f.denominator) (most width f.is_negative))

abbrev pub point_of : Fraction → ℤ
point_of f = rounded 16 f

abbrev pub point : SampleEncoding → List ℕ → ℤ
point encoding sample = point_of (fraction encoding sample)

-- the unsigned word of its bits
abbrev pub point_word : SampleEncoding → List ℕ → ℕ
point_word encoding sample = cast_unsigned w16 (point encoding sample)

-- ---- the samples of a channel

-- the sample of one channel in a frame, which has one of each channel in turn
abbrev pub sample_in : ℕ → ℕ → List ℕ → List ℕ
sample_in size channel frame = take size (drop (channel * size) frame)

-- A function of each sample of one channel, in all whole frames of the bytes.
abbrev pub channel_samples : {X : Type 0} → (List ℕ → X) → SampleEncoding → ℕ → ℕ → List ℕ → List X
channel_samples of_sample encoding channels channel bytes =
    records (channels * size_of encoding)
    (λ frame. of_sample (sample_in (size_of encoding) channel frame)) bytes

-- The points of one channel, as unsigned words.
abbrev pub channel_words : SampleEncoding → ℕ → ℕ → List ℕ → List ℕ
channel_words encoding channels channel bytes =
    channel_samples (point_word encoding) encoding channels channel bytes
