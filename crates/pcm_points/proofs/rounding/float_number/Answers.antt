use Rattle.std.proofs.Common.{◌≡◌, ◌≤◌, ◌+◌, ◌*◌, ◌%◌, ◌-◌, ◌^◌, ◌∙◌, ℕ, leb, sym, ap, rules, arith}
use Rattle.std.specs.Prelude.{min, max}
use Rattle.std.proofs.Math.Nat.{pow-le-pow_right, mul-le-mul}
use Rattle.pcm_points.specs.Samples.{exponent_of}
use Rattle.pcm_points.proofs.FloatLaws.{number_of, float_number, large_number, small_number}
use Rattle.pcm_points.proofs.rounding.float_number.Goals as goal

scaled : (n extra : ℕ) → n ≤ 2 ^ 24 → extra ≤ 16 → n * 2 ^ extra % 2 ^ 64 ≡ n * 2 ^ extra
scaled n extra h few =
    let scale : 2 ^ extra ≤ 2 ^ 16 = pow-le-pow_right {n = 2} (omega arith) {i = extra} {j = 16} few in
    let product : n * 2 ^ extra ≤ 2 ^ 24 * 2 ^ 16 = mul-le-mul h scale in
    omega (arith, product)

pub returns : goal.returns
returns c =
    let bits = c.args.bits in
    let extra = c.args.extra in
    let shift : c.min-shift.result ≡ min (135 - max (exponent_of bits) 1) (25 + extra) =
    c.min-shift.ensures
    ∙ ap (λ (n : ℕ). min (135 - n) (25 + extra))
    (c.max.ensures ∙ ap (λ (n : ℕ). max n 1) c.exponent_of-exponent.ensures.value) in
    let significand = c.from.ensures ∙ c.significand_of.ensures.value in
    let fits = let bound = c.significand_of.ensures.bound in
    scaled c.from.result extra (omega (arith, bound, c.from.ensures)) c.requires in
    let numerator = fits ∙ ap (λ (n : ℕ). n * 2 ^ extra) significand in
    let number : c.rounded-2.result ≡ float_number extra bits =
    c.rounded-2.ensures
    ∙ (λ i. number_of extra (leb (2 ^ 31) bits) (numerator i) (2 ^ shift i))
    ∙ sym
    (small_number extra bits (sym c.is_nan.ensures ∙ c.if-is_nan.false)
    (let value = c.exponent_of-exponent.ensures.value in let below = c.if-exponent-ge-EXPONENT_OF_ONE.false in
    omega (arith, value, below))) in
    search (rules, number)

pub returns-then-exponent-ge-EXPONENT_OF_ONE : goal.returns-then-exponent-ge-EXPONENT_OF_ONE
returns-then-exponent-ge-EXPONENT_OF_ONE c =
    let bits = c.args.bits in
    let extra = c.args.extra in
    let number : c.rounded.result ≡ float_number extra bits =
    c.rounded.ensures
    ∙ ap (λ (n : ℕ). number_of extra (leb (2 ^ 31) bits) n 1) (scaled 32768 extra (omega arith) c.requires)
    ∙ sym
    (large_number extra bits (sym c.is_nan.ensures ∙ c.if-is_nan.false)
    (let value = c.exponent_of-exponent.ensures.value in let above = c.if-exponent-ge-EXPONENT_OF_ONE.true in
    omega (arith, value, above))) in
    search (rules, number)
