-- Bounds of panned and interpolated values.
use Rattle.std.proofs.Common.{◌≡◌, ℕ, ◌+◌, ◌*◌, ◌/◌, ◌%◌, ◌<◌, ◌≤◌, zero, suc, cond, nat_eq, Bool, true, false, ℤ}
use Rattle.std.proofs.Common.{pos, negsuc, ◌+ℤ◌, ◌-ℤ◌, ◌*ℤ◌, ◌-◌, ◌≤ℤ◌, neg_ℤ, FitsSigned, sym, ap, arith}
use Rattle.std.proofs.lemmas.Nat.{mul-le}
use Rattle.std.proofs.lemmas.Int.{ints}
use Rattle.std.specs.Int.{w16}
use Rattle.std.specs.Int.Signed.{shr_z}
use Rattle.std.proofs.Common.{SFits, ◌∙◌}
use Rattle.sound_tables.specs.Floor.{floor_div, clamped_at_zero}
use Rattle.sound_tables.proofs.FloorLaws.{floor_div_is}
use Rattle.sound_envelopes.proofs.GainLaws.{part_within, whole_part, part_up, part_down, cases_sign, times_more}
use Rattle.sound_envelopes.proofs.GainLaws.{from_zero}
use Rattle.voices.specs.Panning.{side}
use Rattle.voices.specs.Points.{between, weighed}

pub side_within : (p : ℤ) (gain : ℕ) → gain ≤ 1000 → negsuc 32767 ≤ℤ p → p ≤ℤ pos 32767
    → (negsuc 32767 ≤ℤ side p gain) × (side p gain ≤ℤ pos 32767)
unfolding side
side_within p gain h lo hi = part_within p gain 1000 (omega arith) h lo hi

-- the share of 1000 1000ths is the whole
pub whole_side : (z : ℤ) → side z 1000 ≡ z
unfolding side
whole_side z = whole_part z 1000 (omega arith)

pub no_side : (z : ℤ) → side z 0 ≡ pos 0
unfolding side
no_side z = let e = floor_div_is (z *ℤ pos 0) 0 1000 0 (omega arith) (omega (arith, ints)) in omega (arith, ints, e)

-- any share of zero is zero
pub side_of_none : (part : ℕ) → side (pos 0) part ≡ pos 0
unfolding side
side_of_none part =
    let e = floor_div_is (pos 0 *ℤ pos part) 0 1000 0 (omega arith) (omega (arith, ints)) in omega (arith, ints, e)

-- half is a shift by one bit
pub half_side : (z : ℤ) → shr_z z 2 ≡ side z 500
unfolding side
half_side (pos a) = let e : a * 500 / 1000 ≡ a / 2 = omega arith in omega (arith, ints)
half_side (negsuc a) =
    let m : ℕ = suc a - a / 2 * 2 in
    let d : a / 2 * 2 + a % 2 ≡ a = omega arith in
    let e =
    floor_div_is (negsuc a *ℤ pos 500) (suc (a / 2)) 1000 (500 * (1 - a % 2)) (omega arith) (omega (arith, ints))
    in
    omega (arith, ints, e)

-- equal shares of both sides
pub half_each : (z : ℤ) (i left right : ℕ) → left ≡ 500 → right ≡ 500
    → side z 500 ≡ side z (cond (nat_eq i 0) left right)
half_each z i left right e f = ap (side z) (sym (one (nat_eq i 0)))
  where
    one : (b : Bool) → cond b left right ≡ 500
    one true = e
    one false = f

-- a frame that is wholly on the left, or on the right
pub left_alone : (z : ℤ) (i : ℕ) → i < 2 → cond (nat_eq i 0) z (pos 0) ≡ side z (cond (nat_eq i 0) 1000 0)
left_alone z zero h = sym (whole_side z)
left_alone z (suc zero) h = sym (no_side z)
left_alone z (suc (suc i)) h = absurd (omega (arith, h))

pub right_alone : (z : ℤ) (i : ℕ) → i < 2 → cond (nat_eq i 1) z (pos 0) ≡ side z (cond (nat_eq i 0) 0 1000)
right_alone z zero h = sym (no_side z)
right_alone z (suc zero) h = sym (whole_side z)
right_alone z (suc (suc i)) h = absurd (omega (arith, h))

pub between_within : (p q : ℤ) (f : ℕ) → f < 65536 → FitsSigned w16 p → FitsSigned w16 q
    → (negsuc 32767 ≤ℤ between p q f) × (between p q f ≤ℤ pos 32767)
unfolding between
between_within p q f h fp fq =
    cases_sign (q -ℤ p)
    (λ s. let b =
    part_up (q -ℤ p) f 65536 (omega arith) (omega arith) s in
    (omega (arith, ints, b.0, b.1), omega (arith, ints, b.0, b.1)))
    (λ s. let b =
    part_down (q -ℤ p) f 65536 (omega arith) (omega arith) s in
    (omega (arith, ints, b.0, b.1), omega (arith, ints, b.0, b.1)))

-- two points that are not negative, and their weighted sum
record Raised (p q : ℤ) (f : ℕ) : Type 0 where
  a : ℕ
  b : ℕ
  first : p +ℤ pos 32768 ≡ pos a
  small : a ≤ 65535
  second : q +ℤ pos 32768 ≡ pos b
  small' : b ≤ 65535
  sum : weighed p q f +ℤ pos 2147483648 ≡ pos (a * (65536 - f) + b * f)

raised : (p q : ℤ) (f : ℕ) → f < 65536 → SFits w16 p → SFits w16 q → Raised p q f
unfolding weighed
raised p q f h fp fq =
    let a : ℕ = clamped_at_zero (p +ℤ pos 32768) in
    let b : ℕ = clamped_at_zero (q +ℤ pos 32768) in
    let ea : p +ℤ pos 32768 ≡ pos a = from_zero (p +ℤ pos 32768) (omega (arith, ints)) in
    let eb : q +ℤ pos 32768 ≡ pos b = from_zero (q +ℤ pos 32768) (omega (arith, ints)) in
    let ma = times_more p a 32768 (65536 - f) ea in
    let mb = times_more q b 32768 f eb in
    record {
      a =
          a;
      b =
          b;
      first =
          ea;
      small =
          omega (arith, ints, ea);
      second =
          eb;
      small' = omega (arith, ints, eb);
      sum = omega (arith, ints, ma, mb);
    }

pub weighed_within : (p q : ℤ) (f : ℕ) → f < 65536 → SFits w16 p → SFits w16 q
    → (neg_ℤ (pos 2147483648) ≤ℤ weighed p q f) × (weighed p q f ≤ℤ pos 2147418112)
weighed_within p q f h fp fq =
    let r = raised p q f h fp fq in
    let sum = r.sum in
    let x : r.a * (65536 - f) ≤ 65535 * (65536 - f) = mul-le r.a (65536 - f) 65535 (65536 - f) r.small (omega arith) in
    let y : r.b * f ≤ 65535 * f = mul-le r.b f 65535 f r.small' (omega arith) in
    (omega (arith, ints, sum), omega (arith, ints, sum, x, y))

-- linear interpolation is the weighted sum, rounded down
pub weighed_is : (p q : ℤ) (f : ℕ) → f < 65536 → SFits w16 p → SFits w16 q
    → floor_div (weighed p q f) 65536 ≡ between p q f
unfolding between
weighed_is p q f h fp fq =
    let r = raised p q f h fp fq in
    let m : ℕ = r.a * (65536 - f) + r.b * f in
    let difference : (q -ℤ p) +ℤ pos r.a ≡ pos r.b =
    (let e = r.first in let g = r.second in omega (arith, ints, e, g)) in
    let slope = times_more (q -ℤ p) r.b r.a f difference in
    let whole : r.a * 65536 ≡ r.a * (65536 - f) + r.a * f =
    ap (λ x. r.a * x) (let e : 65536 ≡ 65536 - f + f = omega arith in e) ∙ omega arith in
    let one = floor_div_is (weighed p q f) 32768 65536 m (omega arith) r.sum in
    let two = floor_div_is ((q -ℤ p) *ℤ pos f) r.a 65536 m (omega arith) (omega (arith, ints, slope, whole)) in
    let first = r.first in
    omega (arith, ints, one, two, first)

-- the weighted sum as the first point plus a slope
pub by_slope : (p q : ℤ) (f : ℕ) → f < 65536 → SFits w16 p → SFits w16 q
    → p *ℤ pos 65536 +ℤ (q -ℤ p) *ℤ pos f ≡ weighed p q f
by_slope p q f h fp fq =
    let r = raised p q f h fp fq in
    let difference : (q -ℤ p) +ℤ pos r.a ≡ pos r.b =
    (let e = r.first in let g = r.second in omega (arith, ints, e, g)) in
    let slope = times_more (q -ℤ p) r.b r.a f difference in
    let whole : r.a * 65536 ≡ r.a * (65536 - f) + r.a * f =
    ap (λ x. r.a * x) (let e : 65536 ≡ 65536 - f + f = omega arith in e) ∙ omega arith in
    let first = r.first in
    let sum = r.sum in
    omega (arith, ints, slope, whole, first, sum)

-- division rounding down, with a dividend made non-negative
pub share_is : (z : ℤ) (k n m : ℕ) → 0 < n → z +ℤ pos (k * n) ≡ pos m → floor_div z n +ℤ pos k ≡ pos (m / n)
share_is = floor_div_is
