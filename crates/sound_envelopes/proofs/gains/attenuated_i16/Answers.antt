use Rattle.std.proofs.Common.{◌≡◌, ◌-◌, ◌*ℤ◌, ◌+ℤ◌, ℤ, pos, negsuc, arith, ap, ◌∙◌, SFits, to_z, of_z}
use Rattle.std.proofs.lemmas.Int.{ints}
use Rattle.std.specs.Int.{w16, w32}
use Rattle.std.specs.Int.Signed.{shr_z}
use Rattle.sound_envelopes.specs.Gain.{scaled_by}
use Rattle.sound_envelopes.proofs.GainLaws.{Within, scaled_within, low_product, wrapped_upper, high_signed, upper}
use Rattle.sound_envelopes.proofs.gains.attenuated_i16.Goals as goal
use Rattle.sound_envelopes.proofs.gains.attenuated_i16.Goals.{Joined-gain-lt32768, then-gain-lt32768, else-gain-lt32768}

-- the upper half of the product, plus the whole point if the gain is negative
record Softened (upper whole gain_value : ℤ) : Type 0 where
  half : Within upper
  sum : upper +ℤ whole ≡ gain_value
  fits : Within gain_value

softened : (c : Joined-gain-lt32768)
    → Softened
    (shr_z (to_z w32 (of_z w32 (to_z w32 (of_z w32 c.from.result) *ℤ to_z w32 (of_z w32 c.from-2.result)))) 65536)
    c.if-gain-lt32768.whole (scaled_by c.args.p c.args.gain)
softened c =
    let p = c.args.p in
    let g = c.args.gain in
    let fp : SFits w16 p = c.ranges.p in
    let s = c.cast_signed-signed.result in
    let fs : SFits w16 s = omega (arith, ints) in
    let u = upper p s c.from.result c.from-2.result fp fs (omega (arith, ints)) (omega (arith, ints)) in
    let w = scaled_within p g (omega arith) (omega (arith, ints)) (omega (arith, ints)) in
    record {
      half = record { low = omega (arith, ints, u.same, u.low); high = omega (arith, ints, u.same, u.high) };
      sum = elim c.if-gain-lt32768.branch [
        | then-gain-lt32768 t ↦
            let e : s ≡ pos g = omega (arith, ints, t.if-gain-lt32768) in
            let is : shr_z (p *ℤ s) 65536 ≡ scaled_by p g = ap (λ z. shr_z (p *ℤ z) 65536) e ∙ low_product p g in
            omega (arith, ints, u.same, is, t.whole-is)
        | else-gain-lt32768 t ↦
            let e : s ≡ negsuc (65535 - g) =
            c.cast_signed-signed.ensures ∙ high_signed g (omega (arith, t.if-gain-lt32768)) (omega arith) in
            let is : shr_z (p *ℤ s) 65536 +ℤ p ≡ scaled_by p g =
            ap (λ z. shr_z (p *ℤ z) 65536 +ℤ p) e ∙ wrapped_upper p g (65535 - g) (omega arith) fp in
            omega (arith, ints, u.same, is, t.whole-is)
      ];
      fits = record { low = w.0; high = w.1 };
    }

pub overflow_add-result : goal.overflow_add-result
overflow_add-result c =
    let h = softened c in
    omega (arith, ints, h.half.low, h.half.high, h.sum, h.fits.low, h.fits.high, c.if-gain-lt32768.whole-is)

pub returns : goal.returns
returns c =
    let h = softened c in
    omega (arith, ints, h.half.low, h.half.high, h.sum, h.fits.low, h.fits.high, c.if-gain-lt32768.whole-is)
