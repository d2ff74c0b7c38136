use Rattle.std.proofs.Common.{◌≡◌, ℕ, ◌+◌, ◌*◌, ◌%◌, ◌<◌, ℤ, pos, ◌+ℤ◌, ◌-ℤ◌, ◌*ℤ◌, ap, arith, ◌∙◌, SFits, to_z, of_z}
use Rattle.std.proofs.lemmas.Int.{ints, to_z_pos, to_z-of_z, wrapping_add-bits, wrapping_mul-bits}
use Rattle.std.proofs.lemmas.Int.{int_wrap-add_right, int_wrap_fits}
use Rattle.std.proofs.lemmas.Nat.{mod_below}
use Rattle.std.specs.Int.{w16, w32, int_wrap}
use Rattle.std.specs.Int.Signed.{shr_z}
use Rattle.voices.specs.Points.{between, weighed}
use Rattle.sound_envelopes.proofs.GainLaws.{shifted_down}
use Rattle.voices.proofs.PanningLaws.{weighed_is, weighed_within, between_within, by_slope}
use Rattle.voices.proofs.interpolation.interpolated.Goals as goal

-- wrapping arithmetic is exact where the sum fits
wrapped_sum : (p q a b c : ℤ) (part : ℕ) → part < 65536 → SFits w16 p → SFits w16 q → a ≡ p → b ≡ q → c ≡ p
    → to_z w32
    ((of_z w32 (to_z w32 (of_z w32 c) *ℤ pos 65536)
    + of_z w32 (to_z w32 (of_z w32 b) -ℤ to_z w32 (of_z w32 a)) * part % 4294967296)
    % 4294967296)
    ≡ weighed p q part
wrapped_sum p q a b c part h fp fq ea eb ec =
    let m : ℕ = of_z w32 (to_z w32 (of_z w32 c) *ℤ pos 65536) in
    let d : ℕ = of_z w32 (to_z w32 (of_z w32 b) -ℤ to_z w32 (of_z w32 a)) in
    let em : to_z w32 m ≡ p *ℤ pos 65536 = omega (arith, ints, ec, fp) in
    let ed : to_z w32 d ≡ q -ℤ p = omega (arith, ints, ea, eb, fp, fq) in
    let ep : to_z w32 part ≡ pos part = to_z_pos w32 part (omega arith) in
    let lm : m < 4294967296 = omega (arith, ints) in
    let ld : d < 4294967296 = omega (arith, ints) in
    let ln : d * part % 4294967296 < 4294967296 = mod_below (d * part) 4294967296 (omega arith) in
    let w = weighed_within p q part h fp fq in
    let fits : SFits w32 (weighed p q part) = omega (arith, ints, w.0, w.1) in
    wrapping_add-bits w32 m (d * part % 4294967296) lm ln
    ∙ ap (λ (y : ℤ). int_wrap w32 (to_z w32 m +ℤ y))
    (wrapping_mul-bits w32 d part ld (omega arith) ∙ (λ i. int_wrap w32 (ed i *ℤ ep i)))
    ∙ int_wrap-add_right w32 (to_z w32 m) ((q -ℤ p) *ℤ pos part)
    ∙ ap (λ (y : ℤ). int_wrap w32 (y +ℤ (q -ℤ p) *ℤ pos part)) em
    ∙ ap (int_wrap w32) (by_slope p q part h fp fq)
    ∙ int_wrap_fits w32 (weighed p q part) fits

pub returns-clause-value : goal.returns-clause-value
returns-clause-value c =
    let p = c.args.p0 in
    let q = c.args.p1 in
    let fp : SFits w16 p = c.ranges.p0 in
    let fq : SFits w16 q = c.ranges.p1 in
    let sum =
    wrapped_sum p q c.from-2.result c.from.result c.from-3.result c.args.part c.requires fp fq
    (omega (arith, ints)) (omega (arith, ints)) (omega (arith, ints)) in
    let is =
    ap (λ (y : ℤ). shr_z y 65536) sum ∙ shifted_down (weighed p q c.args.part) 65536
    ∙ weighed_is p q c.args.part c.requires fp fq in
    let w = between_within p q c.args.part c.requires fp fq in
    let fits : SFits w32 (between p q c.args.part) = omega (arith, ints, w.0, w.1) in
    ap (λ (y : ℤ). to_z w32 (of_z w32 y)) is ∙ to_z-of_z w32 (between p q c.args.part) fits
