-- Bounds of scaled points.
use Rattle.std.proofs.Common.{◌≡◌, ℕ, ◌+◌, ◌*◌, ◌/◌, ◌<◌, ◌≤◌, suc, ℤ, pos, negsuc, ◌+ℤ◌, ◌-ℤ◌, ◌*ℤ◌, ◌-◌, ◌≤ℤ◌, ap}
use Rattle.std.proofs.Common.{arith, mul-le-mul_left}
use Rattle.std.proofs.lemmas.Nat.{div_below, mul-le}
use Rattle.std.proofs.lemmas.Int.{ints}
use Rattle.std.proofs.Math.Facts.{to_z-neg}
use Rattle.std.proofs.Math.Nat.{mul-div_cancel, zero-div}
use Rattle.std.specs.Int.{w16, w32}
use Rattle.std.specs.Int.Signed.{shr_z}
use Rattle.std.proofs.Common.{refl, SFits, to_z, of_z, ◌∙◌}
use Rattle.sound_tables.specs.Floor.{floor_div, clamped_at_zero}
use Rattle.sound_tables.proofs.FloorLaws.{floor_div_is}
use Rattle.sound_envelopes.specs.Gain.{scaled_by}

pub part_below : (a f n : ℕ) → 0 < n → f ≤ n → a * f / n ≤ a
part_below a f n p h =
    let e : a * f ≤ a * n = mul-le-mul_left a h in
    let lt : a * f / n < suc a = div_below (a * f) n (suc a) p (omega arith) in
    omega arith

-- a part of a number lies between zero and the number
pub part_up : (z : ℤ) (f n : ℕ) → 0 < n → f ≤ n → pos 0 ≤ℤ z
    → (pos 0 ≤ℤ floor_div (z *ℤ pos f) n) × (floor_div (z *ℤ pos f) n ≤ℤ z)
part_up (pos a) f n p h s = let b : a * f / n ≤ a = part_below a f n p h in (omega (arith, ints), omega (arith, ints))
part_up (negsuc a) f n p h s = absurd (omega (arith, ints, s))

-- a part of -b
negative_part : (b n : ℕ) (z : ℤ) (a : ℕ) → 0 < n → z +ℤ pos b ≡ pos 0 → b ≤ suc a * n
    → (negsuc a ≤ℤ floor_div z n) × (floor_div z n ≤ℤ pos 0)
negative_part b n (pos c) a p e h =
    let c0 : c ≡ 0 = omega (arith, ints, e) in
    let q : c / n < suc 0 = div_below c n (suc 0) p (omega arith) in
    (omega (arith, ints), omega (arith, ints))
negative_part b n (negsuc c) a p e h =
    let q : c / n < suc a = div_below c n (suc a) p (omega (arith, ints, e)) in
    (omega (arith, ints), omega (arith, ints))

pub part_down : (z : ℤ) (f n : ℕ) → 0 < n → f ≤ n → z ≤ℤ pos 0
    → (z ≤ℤ floor_div (z *ℤ pos f) n) × (floor_div (z *ℤ pos f) n ≤ℤ pos 0)
part_down (pos a) f n p h s =
    let a0 : a ≡ 0 = omega (arith, ints, s) in
    let b : a * f / n ≤ a = part_below a f n p h in (omega (arith, ints), omega (arith, ints))
part_down (negsuc a) f n p h s =
    let e : suc a * f ≤ suc a * n = mul-le-mul_left (suc a) h in
    negative_part (suc a * f) n (negsuc a *ℤ pos f) a p (omega (arith, ints)) e

pub cases_sign : {P : Type 0} (z : ℤ) → (pos 0 ≤ℤ z → P) → (z ≤ℤ pos 0 → P) → P
cases_sign (pos a) f g = f (omega (arith, ints))
cases_sign (negsuc a) f g = g (omega (arith, ints))

pub record Within (z : ℤ) : Type 0 where
  pub low : negsuc 32767 ≤ℤ z
  pub high : z ≤ℤ pos 32767

pub part_within : (z : ℤ) (f n : ℕ) → 0 < n → f ≤ n → negsuc 32767 ≤ℤ z → z ≤ℤ pos 32767
    → (negsuc 32767 ≤ℤ floor_div (z *ℤ pos f) n) × (floor_div (z *ℤ pos f) n ≤ℤ pos 32767)
part_within z f n p h lo hi =
    cases_sign z
    (λ s. let b = part_up z f n p h s in (omega (arith, ints, b.0), omega (arith, ints, b.1)))
    (λ s. let b = part_down z f n p h s in (omega (arith, ints, b.0), omega (arith, ints, b.1)))

-- the whole part of a number is the number
pub whole_part : (z : ℤ) (n : ℕ) → 0 < n → floor_div (z *ℤ pos n) n ≡ z
whole_part (pos a) n p = ap pos (mul-div_cancel a p)
whole_part (negsuc a) n p =
    let e = floor_div_is (negsuc a *ℤ pos n) (suc a) n 0 p (omega (arith, ints)) in
    let none : 0 / n ≡ 0 = zero-div n in omega (arith, ints, e, none)

pub scaled_within : (p : ℤ) (gain : ℕ) → gain ≤ 65536 → negsuc 32767 ≤ℤ p → p ≤ℤ pos 32767
    → (negsuc 32767 ≤ℤ scaled_by p gain) × (scaled_by p gain ≤ℤ pos 32767)
unfolding scaled_by
scaled_within p gain h lo hi = part_within p gain 65536 (omega arith) h lo hi

-- the full gain changes nothing
pub full_level : (z : ℤ) → scaled_by z 65536 ≡ z
unfolding scaled_by
full_level z = whole_part z 65536 (omega arith)

-- a product, when b is added to its first factor
pub times_more : (z : ℤ) (a b f : ℕ) → z +ℤ pos b ≡ pos a → z *ℤ pos f +ℤ pos (b * f) ≡ pos (a * f)
times_more (pos c) a b f e =
    let g : a ≡ c + b = omega (arith, ints, e) in
    let h : a * f ≡ (c + b) * f = ap (λ x. x * f) g in omega (arith, ints, h)
times_more (negsuc c) a b f e =
    let g : b ≡ a + suc c = omega (arith, ints, e) in
    let h : b * f ≡ (a + suc c) * f = ap (λ x. x * f) g in omega (arith, ints, h)

pub from_zero : (z : ℤ) → pos 0 ≤ℤ z → z ≡ pos (clamped_at_zero z)
from_zero (pos a) h = refl
from_zero (negsuc a) h = absurd (omega (arith, ints, h))

pub faded : (a b : ℕ) → a ≤ 65536 → b ≤ 65536 → a * b / 65536 ≤ 65536
faded a b h g =
    let e : a * b ≤ 65536 * 65536 = mul-le a b 65536 65536 h g in
    let q : a * b / 65536 < 65537 = div_below (a * b) 65536 65537 (omega arith) (omega arith) in omega arith

-- a 16-bit factor read as negative makes a product lower by 65536 times the other factor
times_wrapped : (z : ℤ) (g b : ℕ) → g + suc b ≡ 65536 → z *ℤ negsuc b +ℤ z *ℤ pos 65536 ≡ z *ℤ pos g
times_wrapped (pos a) g b e = let h : a * (g + suc b) ≡ a * 65536 = ap (λ x. a * x) e in omega (arith, ints, h)
times_wrapped (negsuc a) g b e =
    let h : suc a * (g + suc b) ≡ suc a * 65536 = ap (λ x. suc a * x) e in omega (arith, ints, h)

-- and its upper half lower by one whole point
pub wrapped_upper : (p : ℤ) (g b : ℕ) → g + suc b ≡ 65536 → SFits w16 p
    → shr_z (p *ℤ negsuc b) 65536 +ℤ p ≡ scaled_by p g
unfolding scaled_by
wrapped_upper p g b e fp =
    let a : ℕ = clamped_at_zero (p +ℤ pos 65536) in
    let c : ℕ = clamped_at_zero (pos 65536 -ℤ p) in
    let ea : p +ℤ pos 65536 ≡ pos a = from_zero (p +ℤ pos 65536) (omega (arith, ints)) in
    let ec : pos 65536 -ℤ p ≡ pos c = from_zero (pos 65536 -ℤ p) (omega (arith, ints)) in
    let m = times_more p a 65536 g ea in
    let w = times_wrapped p g b e in
    let one = floor_div_is (p *ℤ pos g) g 65536 (a * g) (omega arith) (omega (arith, ints, m)) in
    let two =
    floor_div_is (p *ℤ negsuc b) (g + 65536) 65536 (c * 65536 + a * g) (omega arith)
    (omega (arith, ints, m, w, ea, ec)) in
    let q : (c * 65536 + a * g) / 65536 ≡ c + a * g / 65536 = omega arith in
    omega (arith, ints, one, two, q, ea, ec)

pub shifted_down : (z : ℤ) (n : ℕ) → shr_z z n ≡ floor_div z n
shifted_down (pos a) n = refl
shifted_down (negsuc a) n = refl

pub low_product : (p : ℤ) (g : ℕ) → shr_z (p *ℤ pos g) 65536 ≡ scaled_by p g
unfolding scaled_by
low_product p g = shifted_down (p *ℤ pos g) 65536

pub record Product (z : ℤ) : Type 0 where
  pub low : negsuc 1073741823 ≤ℤ z
  pub high : z ≤ℤ pos 1073741824

pub product_within : (p s : ℤ) → SFits w16 p → SFits w16 s → Product (p *ℤ s)
product_within (pos a) (pos b) f g =
    let h : a * b ≤ 32768 * 32768 = mul-le a b 32768 32768 (omega (arith, ints, f)) (omega (arith, ints, g)) in
    record { low = omega (arith, ints, h); high = omega (arith, ints, h) }
product_within (pos a) (negsuc b) f g =
    let h : a * suc b ≤ 32768 * 32768 =
    mul-le a (suc b) 32768 32768 (omega (arith, ints, f)) (omega (arith, ints, g)) in
    record { low = omega (arith, ints, h); high = omega (arith, ints, h) }
product_within (negsuc a) (pos b) f g =
    let h : suc a * b ≤ 32768 * 32768 =
    mul-le (suc a) b 32768 32768 (omega (arith, ints, f)) (omega (arith, ints, g)) in
    record { low = omega (arith, ints, h); high = omega (arith, ints, h) }
product_within (negsuc a) (negsuc b) f g =
    let h : suc a * suc b ≤ 32768 * 32768 =
    mul-le (suc a) (suc b) 32768 32768 (omega (arith, ints, f)) (omega (arith, ints, g)) in
    record { low = omega (arith, ints, h); high = omega (arith, ints, h) }

upper_within : (z : ℤ) → Product z → Within (shr_z z 65536)
upper_within (pos a) h = let l = h.high in record { low = omega (arith, ints); high = omega (arith, ints, l) }
upper_within (negsuc a) h = let l = h.low in record { low = omega (arith, ints, l); high = omega (arith, ints) }

-- the upper half of a product, as it is computed
pub record Upper (p s from from' : ℤ) : Type 0 where
  pub same : shr_z (to_z w32 (of_z w32 (to_z w32 (of_z w32 from) *ℤ to_z w32 (of_z w32 from')))) 65536
      ≡ shr_z (p *ℤ s) 65536
  pub low : negsuc 32767 ≤ℤ shr_z (p *ℤ s) 65536
  pub high : shr_z (p *ℤ s) 65536 ≤ℤ pos 32767

pub upper : (p s from from' : ℤ) → SFits w16 p → SFits w16 s → from ≡ p → from' ≡ s → Upper p s from from'
upper p s from from' f g e h =
    let m = product_within p s f g in
    let u = upper_within (p *ℤ s) m in
    let a : to_z w32 (of_z w32 from) ≡ p = omega (arith, ints, e, f) in
    let b : to_z w32 (of_z w32 from') ≡ s = omega (arith, ints, h, g) in
    let low = m.low in
    let high = m.high in
    let c : to_z w32 (of_z w32 (p *ℤ s)) ≡ p *ℤ s = omega (arith, ints, low, high) in
    record {
      same =
          ap (λ x. shr_z (to_z w32 (of_z w32 (x *ℤ to_z w32 (of_z w32 from')))) 65536) a
          ∙ ap (λ x. shr_z (to_z w32 (of_z w32 (p *ℤ x))) 65536) b ∙ ap (λ x. shr_z x 65536) c;
      low = u.low;
      high = u.high;
    }

-- 16-bit numbers from 32768 on are read as negative
pub high_signed : (g : ℕ) → 32768 ≤ g → g < 65536 → to_z w16 g ≡ negsuc (65535 - g)
high_signed g h l =
    ap (to_z w16) (let e : g ≡ 65536 - suc (65535 - g) = omega arith in e) ∙ to_z-neg w16 (65535 - g) (omega arith)
