-- Rounding to the nearest whole number.
use Rattle.std.proofs.Common.{◌≡◌, ◌≤◌, ◌<◌, ◌+◌, ◌*◌, ◌^◌, ℕ, Bool, true, false, cond, ltb, refl, ap, sym, ◌∙◌, arith}
use Rattle.std.proofs.lemmas.Nat.{pow_pos}
use Rattle.std.proofs.Math.Nat.{le-div_iff_mul-le, div-mul-le_self, lt-div-mul-add, mul-div-mul_left, div-eq_of_lt}
use Rattle.std.proofs.Math.Nat.{mul_comm, mul_assoc, add-mul}
use Rattle.std.specs.Prelude.{min}
use Rattle.byteorder.specs.Endian.{little_number}
use Rattle.pcm_points.specs.declared.encoding.SampleEncoding.TheVariants.{Unsigned8, Signed16, Signed24, Signed32}
use Rattle.pcm_points.specs.declared.encoding.SampleEncoding.TheVariants.{Float32}
use Rattle.pcm_points.specs.Samples.{Fraction, integer_fraction, float_fraction}
use Rattle.pcm_points.specs.Points.{nearest, most, with_sign, point_of}
use Rattle.pcm_points.specs.Laws.{IsNearest, PointsAreNearest}

pub is_nearest : (n d : ℕ) → 0 < d → IsNearest n d (nearest n d)
is_nearest n d some =
    let r = nearest n d in
    let twice : r * (2 * d) ≡ 2 * (r * d) = omega (arith, mul_comm r (2 * d), mul_assoc 2 d r, mul_comm d r) in
    let low = div-mul-le_self (2 * n + d) (2 * d) in
    let some2 : 0 < 2 * d = omega (arith, some) in
    let high = lt-div-mul-add {a = 2 * n + d} {b = 2 * d} some2 in
    record { above = omega (arith, twice, low); below = omega (arith, twice, high) }

-- The nearest whole number to at least q is at least q.
pub nearest-ge : (n d q : ℕ) → 0 < d → q * d ≤ n → q ≤ nearest n d
nearest-ge n d q some h =
    let some2 : 0 < 2 * d = omega (arith, some) in
    let twice : q * (2 * d) ≡ 2 * (q * d) = omega (arith, mul_comm q (2 * d), mul_assoc 2 d q, mul_comm d q) in
    (le-div_iff_mul-le {k = 2 * d} {x = q} {y = 2 * n + d} some2).1 (omega (arith, twice, h))

-- A fraction in higher terms.
pub nearest-higher : (n d k : ℕ) → 0 < k → nearest (n * k) (d * k) ≡ nearest n d
nearest-higher n d k some =
    let above : 2 * (n * k) + d * k ≡ k * (2 * n + d) =
    omega (arith, mul_comm k (2 * n + d), add-mul (2 * n) d k, mul_assoc 2 n k) in
    let below : 2 * (d * k) ≡ k * (2 * d) = omega (arith, mul_comm k (2 * d), mul_assoc 2 d k) in
    rw (above, below) (mul-div-mul_left (2 * n + d) (2 * d) some)

-- A whole number is its own nearest.
pub nearest-exact : (n d : ℕ) → 0 < d → nearest (n * d) d ≡ n
nearest-exact n d some =
    let one : nearest (n * d) (1 * d) ≡ nearest n 1 = nearest-higher n 1 d some in
    let unit : 1 * d ≡ d = omega arith in
    ap (nearest (n * d)) (sym unit) ∙ one ∙ omega arith

-- Less than half is nearest to 0.
pub nearest-none : (n d : ℕ) → 2 * n < d → nearest n d ≡ 0
nearest-none n d h = div-eq_of_lt (omega (arith, h))

-- ---- each sample

abbrev Rounds : Fraction → Type 0
Rounds f =
    (r : ℕ) × IsNearest f.numerator f.denominator r
    × (point_of f ≡ with_sign f.is_negative (min r (most 16 f.is_negative)))

rounds : (f : Fraction) → 0 < f.denominator → Rounds f
rounds f some = (nearest f.numerator f.denominator, is_nearest f.numerator f.denominator some, refl)

integer-rounds : (width number : ℕ) → Rounds (integer_fraction width number)
integer-rounds width number =
    rounds (integer_fraction width number)
    (either (ltb (2 * number) (2 ^ width)) _ _ (pow_pos width) (pow_pos width))
  where
    either : (test : Bool) (f g : Fraction) → 0 < f.denominator → 0 < g.denominator → 0 < (cond test f g).denominator
    either true f g one other = one
    either false f g one other = other

pub points_are_nearest : PointsAreNearest
points_are_nearest Unsigned8 sample = integer-rounds 8 _
points_are_nearest Signed16 sample = integer-rounds 16 _
points_are_nearest Signed24 sample = integer-rounds 24 _
points_are_nearest Signed32 sample = integer-rounds 32 _
points_are_nearest Float32 sample = rounds (float_fraction (little_number 4 sample)) (pow_pos 135)
