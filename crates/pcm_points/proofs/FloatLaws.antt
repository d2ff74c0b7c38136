-- The numbers of floats, from their fields.
use Rattle.std.proofs.Common.{◌≡◌, ◌≤◌, ◌<◌, ◌+◌, ◌-◌, ◌*◌, ◌^◌, ℕ, suc, ℤ, Bool, true, false, pos}
use Rattle.std.proofs.Common.{eqb, leb, refl, ap, sym, ◌∙◌, inl, inr, arith}
use Rattle.std.proofs.lemmas.Nat.{pow_pos, pow-add}
use Rattle.std.proofs.lemmas.Bool.{cases_lt, cond_both, eqb-true}
use Rattle.std.proofs.Math.Nat.{pow-le-pow_right, mul-le-mul_right, min-eq_left, min-eq_right}
use Rattle.std.proofs.Math.Nat.{mul_comm, mul_assoc, zero-mul, suc-mul}
use Rattle.std.specs.Prelude.{min, max}
use Rattle.pcm_points.specs.Samples.{exponent_of, fraction_of, is_nan, significand_of, float_fraction, finer}
use Rattle.pcm_points.specs.Points.{nearest, most, with_sign, rounded}
use Rattle.pcm_points.proofs.NearestLaws.{nearest-ge, nearest-higher, nearest-none}

-- ---- numbers of 16 + extra bits, in units of 2^-extra points

module _ (extra : ℕ) where
  abbrev pub number_of : Bool → ℕ → ℕ → ℤ
  number_of sign n d = rounded (16 + extra) (record { is_negative = sign; numerator = n; denominator = d })

  -- Only the nearest number counts, clipped.
  same_number : (sign : Bool) (n d m e : ℕ)
      → min (nearest n d) (most (16 + extra) sign) ≡ min (nearest m e) (most (16 + extra) sign)
      → number_of sign n d ≡ number_of sign m e
  same_number sign n d m e same = ap (with_sign sign) same

  top : 2 ^ (16 + extra - 1) ≡ 32768 * 2 ^ extra
  top = let less : 16 + extra - 1 ≡ 15 + extra = omega arith in rw less (pow-add 2 15 extra)

  most-le : (sign : Bool) → most (16 + extra) sign ≤ 32768 * 2 ^ extra
  most-le true = omega (arith, top)
  most-le false = omega (arith, top)

  clipped : (sign : Bool) (r : ℕ) → 32768 * 2 ^ extra ≤ r → min r (most (16 + extra) sign) ≡ most (16 + extra) sign
  clipped sign r h = min-eq_right (omega (arith, h, most-le sign))

  -- A float of at least 1, or an infinity, is clipped.
  large_product : (sign : Bool) (significand exponent : ℕ) → 2 ^ 23 ≤ significand → 127 ≤ exponent
      → number_of sign (significand * 2 ^ exponent * 2 ^ extra) (2 ^ 135) ≡ number_of sign (32768 * 2 ^ extra) 1
  large_product sign significand exponent s e =
      let high : 2 ^ 127 ≤ 2 ^ exponent = pow-le-pow_right {n = 2} (omega arith) e in
      let product : 2 ^ 23 * 2 ^ exponent ≤ significand * 2 ^ exponent = mul-le-mul_right (2 ^ exponent) s in
      let whole : 2 ^ 150 * 2 ^ extra ≤ significand * 2 ^ exponent * 2 ^ extra =
      mul-le-mul_right (2 ^ extra) (omega (arith, high, product)) in
      let far : 32768 * 2 ^ extra ≤ nearest (significand * 2 ^ exponent * 2 ^ extra) (2 ^ 135) =
      nearest-ge (significand * 2 ^ exponent * 2 ^ extra) (2 ^ 135) (32768 * 2 ^ extra) (pow_pos 135)
      (omega (arith, whole)) in
      same_number sign _ (2 ^ 135) (32768 * 2 ^ extra) 1
      (clipped sign _ far ∙ sym (clipped sign (nearest (32768 * 2 ^ extra) 1) (omega arith)))

  -- The number of a significand with an exponent is that of a fraction in lower terms.
  lower : (significand exponent shift : ℕ) → exponent + shift ≡ 135
      → nearest (significand * 2 ^ exponent * 2 ^ extra) (2 ^ 135) ≡ nearest (significand * 2 ^ extra) (2 ^ shift)
  lower significand exponent shift e =
      let sum : 135 ≡ shift + exponent = omega (arith, e) in
      let product : 2 ^ 135 ≡ 2 ^ shift * 2 ^ exponent = ap (λ (n : ℕ). 2 ^ n) sum ∙ pow-add 2 shift exponent in
      let turned : significand * 2 ^ exponent * 2 ^ extra ≡ significand * 2 ^ extra * 2 ^ exponent =
      mul_assoc significand (2 ^ exponent) (2 ^ extra)
      ∙ ap (λ (n : ℕ). significand * n) (mul_comm (2 ^ exponent) (2 ^ extra))
      ∙ sym (mul_assoc significand (2 ^ extra) (2 ^ exponent)) in
      (λ i. nearest (turned i) (product i))
      ∙ nearest-higher (significand * 2 ^ extra) (2 ^ shift) (2 ^ exponent) (pow_pos exponent)

  -- A significand shifted by 25 bits more than the extra ones, or further, is less than half.
  shifted : (significand shift : ℕ) → significand < 2 ^ 24
      → nearest (significand * 2 ^ extra) (2 ^ shift) ≡ nearest (significand * 2 ^ extra) (2 ^ min shift (25 + extra))
  shifted significand shift s = elim (cases_lt (25 + extra) shift) [
    | inr short ↦ (ap (λ (n : ℕ). nearest (significand * 2 ^ extra) (2 ^ n)) (sym (min-eq_left short)))
    | inl long ↦ (
        let small : suc significand * 2 ^ extra ≤ 2 ^ 24 * 2 ^ extra = mul-le-mul_right (2 ^ extra) s in
        let next = suc-mul significand (2 ^ extra) in
        let some = pow_pos extra in
        let limit : 2 ^ (25 + extra) ≡ 2 ^ 25 * 2 ^ extra = pow-add 2 25 extra in
        let high : 2 ^ (25 + extra) ≤ 2 ^ shift =
        pow-le-pow_right {n = 2} (omega arith) {i = 25 + extra} {j = shift} (omega (arith, long)) in
        nearest-none (significand * 2 ^ extra) (2 ^ shift) (omega (arith, small, next, some, limit, high))
        ∙ sym
        (nearest-none (significand * 2 ^ extra) (2 ^ (25 + extra)) (omega (arith, small, next, some, limit)))
        ∙ ap (λ (n : ℕ). nearest (significand * 2 ^ extra) (2 ^ n)) (sym (min-eq_right (omega (arith, long)))))
  ]

  -- A float below 1.
  small_product : (sign : Bool) (significand exponent : ℕ) → significand < 2 ^ 24 → exponent ≤ 135
      → number_of sign (significand * 2 ^ exponent * 2 ^ extra) (2 ^ 135)
      ≡ number_of sign (significand * 2 ^ extra) (2 ^ min (135 - exponent) (25 + extra))
  small_product sign significand exponent s e =
      same_number sign _ (2 ^ 135) (significand * 2 ^ extra) (2 ^ min (135 - exponent) (25 + extra))
      (ap (λ (n : ℕ). min n (most (16 + extra) sign))
      (lower significand exponent (135 - exponent) (omega (arith, e)) ∙ shifted significand (135 - exponent) s))

-- ---- by the bits

abbrev pub float_number : ℕ → ℕ → ℤ
float_number extra bits = rounded (16 + extra) (finer extra (float_fraction bits))

finite : (extra bits : ℕ) → is_nan bits ≡ false
    → float_number extra bits
    ≡ number_of extra (leb (2 ^ 31) bits) (significand_of bits * 2 ^ max (exponent_of bits) 1 * 2 ^ extra) (2 ^ 135)
finite extra bits h = rw h refl

pub nan_number : (extra bits : ℕ) → is_nan bits ≡ true → float_number extra bits ≡ pos 0
nan_number extra bits h = rw h (zero_number (leb (2 ^ 31) bits))
  where
    none : nearest (0 * 2 ^ extra) (2 ^ 135) ≡ 0
    none = nearest-none (0 * 2 ^ extra) (2 ^ 135) (omega (arith, zero-mul (2 ^ extra)))

    zero_number : (sign : Bool) → number_of extra sign (0 * 2 ^ extra) (2 ^ 135) ≡ pos 0
    zero_number true = ap (with_sign true) {y = 0} (omega (arith, none))
    zero_number false = ap (with_sign false) {y = 0} (omega (arith, none))

large_significand : (bits : ℕ) → 127 ≤ exponent_of bits → 2 ^ 23 ≤ significand_of bits
large_significand bits e =
    cond_both (eqb (exponent_of bits) 0) (fraction_of bits) (2 ^ 23 + fraction_of bits) (λ s. 2 ^ 23 ≤ s)
    (λ zero. absurd (omega (arith, e, eqb-true (exponent_of bits) 0 zero))) (λ _. omega arith)

significand-lt : (bits : ℕ) → significand_of bits < 2 ^ 24
significand-lt bits =
    cond_both (eqb (exponent_of bits) 0) (fraction_of bits) (2 ^ 23 + fraction_of bits) (λ s. s < 2 ^ 24)
    (λ _. omega arith) (λ _. omega arith)

pub large_number : (extra bits : ℕ) → is_nan bits ≡ false → 127 ≤ exponent_of bits
    → float_number extra bits ≡ number_of extra (leb (2 ^ 31) bits) (32768 * 2 ^ extra) 1
large_number extra bits h e =
    finite extra bits h
    ∙ large_product extra (leb (2 ^ 31) bits) (significand_of bits) (max (exponent_of bits) 1)
    (large_significand bits e) (omega (arith, e))

pub small_number : (extra bits : ℕ) → is_nan bits ≡ false → exponent_of bits < 127
    → float_number extra bits
    ≡ number_of extra (leb (2 ^ 31) bits) (significand_of bits * 2 ^ extra)
    (2 ^ min (135 - max (exponent_of bits) 1) (25 + extra))
small_number extra bits h e =
    finite extra bits h
    ∙ small_product extra (leb (2 ^ 31) bits) (significand_of bits) (max (exponent_of bits) 1)
    (significand-lt bits) (omega (arith, e))
