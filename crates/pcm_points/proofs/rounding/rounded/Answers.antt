use Rattle.std.proofs.Common.{◌≡◌, ◌≤◌, ◌<◌, ◌+◌, ◌*◌, ◌/◌, ◌%◌, ◌^◌, ◌-◌, ◌-ℤ◌, ℕ, pos, neg_ℤ, not, to_z, of_z}
use Rattle.std.proofs.Common.{w32, w64, ap, ◌∙◌, arith}
use Rattle.std.proofs.lemmas.Int.{ints}
use Rattle.std.proofs.lemmas.Grind.{pow_more}
use Rattle.std.proofs.Math.Nat.{pow-le-pow_right}
use Rattle.std.specs.Prelude.{min}
use Rattle.std.specs.Int.{from_bool}
use Rattle.std.proofs.lemmas.Nat.{pow_pos}
use Rattle.pcm_points.specs.Points.{nearest}
use Rattle.pcm_points.proofs.rounding.rounded.Goals as goal

scale_fits : (bits most : ℕ) → bits ≤ most → 2 ^ most < 2 ^ 64 → 1 * 2 ^ bits % 2 ^ 64 ≡ 2 ^ bits
scale_fits bits most h small =
    let below : 2 ^ bits ≤ 2 ^ most = pow-le-pow_right {n = 2} (omega arith) {i = bits} {j = most} h in
    omega (arith, below, small)

half_fits : (width : ℕ) → width ≤ 32 → 2 ^ (width - 1) ≤ 2 ^ 31
half_fits width h = pow-le-pow_right {n = 2} (omega arith) {i = width - 1} {j = 31} (omega (arith, h))

half_is : (width : ℕ) → width ≤ 32 → 1 * 2 ^ (width - 1) % 2 ^ 64 ≡ 2 ^ (width - 1)
half_is width h = scale_fits (width - 1) 31 (omega (arith, h)) (omega arith)

-- a half is the first bit below the shift
is_clipped : (n shift top r : ℕ) → shift ≤ 60 → r ≡ min ((2 * n + 1 * 2 ^ shift % 2 ^ 64) / 2 ^ (shift + 1)) top
    → r ≡ min (nearest n (2 ^ shift)) top
is_clipped n shift top r h e =
    let scale = scale_fits shift 60 h (omega arith) in
    let twice : 2 ^ (shift + 1) ≡ 2 * 2 ^ shift = omega (arith, pow_more 2 shift) in
    e ∙ (λ i. min ((2 * n + scale i) / twice i) top)

negative : (m : ℕ) → m ≤ 2 ^ 31 → to_z w32 (of_z w32 (to_z w64 (of_z w64 (pos 0 -ℤ to_z w64 m)))) ≡ neg_ℤ (pos m)
negative m h = omega (arith, ints)

positive : (m : ℕ) → m < 2 ^ 31 → to_z w32 (of_z w32 (to_z w64 m)) ≡ pos m
positive m h = omega (arith, ints)

pub returns-then-is_negative : goal.returns-then-is_negative
returns-then-is_negative c =
    let top = half_fits c.args.width c.requires.width.1 in
    let all : c.from.result ≡ 0 = c.from.ensures ∙ ap (λ sign. from_bool (not sign)) c.if-is_negative.true in
    let value : c.min-number.result ≡ min (nearest c.args.numerator (2 ^ c.args.shift)) (2 ^ (c.args.width - 1)) =
    is_clipped c.args.numerator c.args.shift _ c.min-number.result c.requires.shift c.min-number.ensures
    ∙ ap (min (nearest c.args.numerator (2 ^ c.args.shift)))
    (let half = half_is c.args.width c.requires.width.1 in omega (arith, all, half)) in
    rw c.if-is_negative.true
    (negative c.min-number.result (omega (arith, value, top)) ∙ ap (λ (m : ℕ). neg_ℤ (pos m)) value)

pub returns-else-is_negative : goal.returns-else-is_negative
returns-else-is_negative c =
    let top = half_fits c.args.width c.requires.width.1 in
    let less : c.from.result ≡ 1 = c.from.ensures ∙ ap (λ sign. from_bool (not sign)) c.if-is_negative.false in
    let value : c.min-number.result ≡ min (nearest c.args.numerator (2 ^ c.args.shift)) (2 ^ (c.args.width - 1) - 1) =
    is_clipped c.args.numerator c.args.shift _ c.min-number.result c.requires.shift c.min-number.ensures
    ∙ ap (min (nearest c.args.numerator (2 ^ c.args.shift)))
    (let half = half_is c.args.width c.requires.width.1 in omega (arith, less, half)) in
    rw c.if-is_negative.false
    (positive c.min-number.result (let some = pow_pos (c.args.width - 1) in omega (arith, value, top, some))
    ∙ ap pos value)
