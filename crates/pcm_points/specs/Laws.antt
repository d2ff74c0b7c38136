-- Laws of points.
use Rattle.std.specs.Prelude.{◌≡◌, ◌+◌, ◌*◌, ◌<◌, ◌≤◌, ◌%◌, ◌^◌, ℕ, ℤ, pos, ◌-ℤ◌, ◌*ℤ◌, unsigned_abs}
use Rattle.std.specs.Prelude.{List, length, All, min, Option}
use Rattle.std.specs.Int.{w16, saturate_signed}
use Rattle.sample_view.specs.Words.{words}
use Rattle.pcm_points.specs.declared.encoding.SampleEncoding.{SampleEncoding}
use Rattle.pcm_points.specs.declared.encoding.SampleEncoding.TheVariants.{Signed16}
use Rattle.pcm_points.specs.Samples.{size_of, fraction}
use Rattle.pcm_points.specs.Points.{most, with_sign, point, channel_words}
use Rattle.pcm_points.specs.Dither.{dithered_point, reduced_words}

-- r is at most half above n / d, and less than half below it
pub record IsNearest (n : ℕ) (d : ℕ) (r : ℕ) : Type 0 where
  pub above : 2 * (r * d) ≤ 2 * n + d
  pub below : 2 * n < 2 * (r * d) + d

-- The magnitude of each point is the whole number that is nearest to the magnitude of its sample, of two the greater,
-- clipped to 16 bits.
abbrev pub PointsAreNearest : Type 0
PointsAreNearest =
    (encoding : SampleEncoding) (sample : List ℕ) → let f = fraction encoding sample in
    (r : ℕ) × IsNearest f.numerator f.denominator r
    × (point encoding sample ≡ with_sign f.is_negative (min r (most 16 f.is_negative)))

-- The points of whole 16-bit samples of one channel are those samples.
abbrev pub SixteenBitsStay : Type 0
SixteenBitsStay =
    (bytes : List ℕ) → All (λ b. b < 256) bytes → length bytes % 2 ≡ 0 → channel_words Signed16 1 0 bytes ≡ words bytes

-- A dithered point is a whole number less than 3/2 points from its sample, clipped to 16 bits. In units of 2^-16
-- points, they differ by no more than the noise and the rounding.
abbrev pub DitherIsNear : Type 0
DitherIsNear =
    (word : ℕ) (units : ℤ) → word < 2 ^ 32
    → (n : ℤ) × (unsigned_abs (n *ℤ pos (2 ^ 16) -ℤ units) ≤ 65535 + 32768)
    × (dithered_point word units ≡ saturate_signed w16 n)

-- Dither leaves the points of samples of 8 and 16 bits as they are.
abbrev pub NarrowSamplesStay : Type 0
NarrowSamplesStay =
    (dither : Option ℕ) (encoding : SampleEncoding) (channels channel : ℕ) (bytes : List ℕ) → size_of encoding ≤ 2
    → reduced_words dither encoding channels channel bytes ≡ channel_words encoding channels channel bytes
