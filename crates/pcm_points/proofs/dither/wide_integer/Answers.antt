use Rattle.std.proofs.Common.{◌≡◌, ◌≤◌, ◌<◌, ◌+◌, ◌*◌, ◌^◌, ◌-◌, ◌%◌, ℕ, zero, suc, ℤ, pos, neg_ℤ}
use Rattle.std.proofs.Common.{true, false, to_z, of_z, w32, ap, sym, inl, inr, ◌∙◌, arith}
use Rattle.std.proofs.lemmas.Int.{ints, of_z-to_z}
use Rattle.std.proofs.Math.Facts.{to_z-neg}
use Rattle.std.specs.Prelude.{min}
use Rattle.std.proofs.lemmas.Nat.{pow_pos, pow-add}
use Rattle.std.proofs.lemmas.Bool.{cases_lt, lt-ltb, le-ltb}
use Rattle.std.proofs.Math.Nat.{mul_comm, mul_assoc, mul-le-mul_right, suc-mul, add-mul}
use Rattle.pcm_points.specs.Samples.{integer_fraction, finer}
use Rattle.pcm_points.specs.Points.{nearest, with_sign, rounded}
use Rattle.pcm_points.proofs.NearestLaws.{nearest-exact}
use Rattle.pcm_points.proofs.dither.wide_integer.Goals as goal

word_negative : (n m : ℕ) → n + m ≡ 2 ^ 32 → 0 < m → m ≤ 2 ^ 31
    → to_z w32 (of_z w32 (to_z w32 (n % 2 ^ 32))) ≡ neg_ℤ (pos m)
word_negative n zero e some h = absurd (omega arith)
word_negative n (suc m) e some h =
    let word : n % 2 ^ 32 ≡ 2 ^ 32 - suc m = omega (arith, e) in
    ap (to_z w32) (of_z-to_z w32 (n % 2 ^ 32) (omega arith)) ∙ ap (to_z w32) word ∙ to_z-neg w32 m (omega (arith, h))

-- a number n of d = 2^width, in units of which s fill it up to 32 bits
module _ (d s n : ℕ) (full : d * s ≡ 2 ^ 32) (some : 0 < d) (fine : 0 < s) (small : n < d) where
  exact : (m : ℕ) → nearest (2 ^ 16 * m * 2 ^ 16) d ≡ m * s
  exact m =
      let unit : 2 ^ 16 * m * 2 ^ 16 ≡ m * s * d =
      let whole : m * 2 ^ 32 ≡ m * s * d =
      ap (λ (k : ℕ). m * k) (sym full ∙ mul_comm d s) ∙ sym (mul_assoc m s d) in omega (arith, whole) in
      ap (λ (k : ℕ). nearest k d) unit ∙ nearest-exact (m * s) d some

  not_negative : 2 * n < d
      → to_z w32 (of_z w32 (to_z w32 (n * s % 2 ^ 32)))
      ≡ with_sign false (min (nearest (2 ^ 16 * n * 2 ^ 16) d) (2 ^ 31 - 1))
  not_negative low =
      let bound : suc (2 * n) * s ≤ d * s = mul-le-mul_right s low in
      let double : 2 * n * s ≡ 2 * (n * s) = mul_assoc 2 n s in
      let unit = exact n in
      omega (arith, ints, bound, suc-mul (2 * n) s, double, full, fine, unit)

  negative : d ≤ 2 * n
      → to_z w32 (of_z w32 (to_z w32 (n * s % 2 ^ 32)))
      ≡ with_sign true (min (nearest (2 ^ 16 * (d - n) * 2 ^ 16) d) (2 ^ 31))
  negative high =
      let sum : (d - n) * s + n * s ≡ 2 ^ 32 =
      let whole : d - n + n ≡ d = omega (arith, small) in
      sym (add-mul (d - n) n s) ∙ ap (λ (k : ℕ). k * s) whole ∙ full in
      let half : d * s ≤ 2 * n * s = mul-le-mul_right s high in
      let double : 2 * n * s ≡ 2 * (n * s) = mul_assoc 2 n s in
      let more : suc n * s ≤ d * s = mul-le-mul_right s small in
      let fits : min (nearest (2 ^ 16 * (d - n) * 2 ^ 16) d) (2 ^ 31) ≡ (d - n) * s =
      let unit = exact (d - n) in omega (arith, sum, half, double, full, unit) in
      word_negative (n * s) ((d - n) * s) (omega (arith, sum)) (omega (arith, more, suc-mul n s, full, fine, sum))
      (omega (arith, sum, half, double, full))
      ∙ ap (λ (k : ℕ). neg_ℤ (pos k)) (sym fits)

pub returns : goal.returns
returns c =
    let width = c.args.width in
    let n = c.args.number in
    let d = 2 ^ width in
    let s = 2 ^ (32 - width) in
    let bits : width + (32 - width) ≡ 32 = let h = c.requires.width.1 in omega (arith, h) in
    let full : d * s ≡ 2 ^ 32 = sym (pow-add 2 width (32 - width)) ∙ ap (λ (k : ℕ). 2 ^ k) bits in
    let some = pow_pos width in
    let fine = pow_pos (32 - width) in
    let word : to_z w32 (of_z w32 c.cast_signed.result) ≡ to_z w32 (of_z w32 (to_z w32 (n * s % 2 ^ 32))) =
    ap (λ (z : ℤ). to_z w32 (of_z w32 z)) c.cast_signed.ensures in
    word
    ∙ (elim (cases_lt (2 * n) d) as
    (λ _. to_z w32 (of_z w32 (to_z w32 (n * s % 2 ^ 32))) ≡ rounded 32 (finer 16 (integer_fraction width n))) [
      | inl low ↦ (rw (lt-ltb (2 * n) d low) (not_negative d s n full some fine c.requires.number low))
      | inr high ↦ (rw (le-ltb (2 * n) d high) (negative d s n full some fine c.requires.number high))
    ])
