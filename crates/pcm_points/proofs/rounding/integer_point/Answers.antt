use Rattle.std.proofs.Common.{◌≡◌, ◌≤◌, ◌+◌, ◌-◌, ◌*◌, ◌/◌, ◌%◌, ◌^◌, ℕ, ◌∙◌, rules, arith}
use Rattle.std.proofs.lemmas.Nat.{pow_pos}
use Rattle.std.proofs.lemmas.Grind.{pow_more}
use Rattle.std.proofs.Math.Nat.{pow-le-pow_right}
use Rattle.pcm_points.specs.Samples.{integer_fraction}
use Rattle.pcm_points.specs.Points.{point_of}
use Rattle.pcm_points.proofs.OffsetLaws.{offset_point}
use Rattle.pcm_points.proofs.rounding.integer_point.Goals as goal

-- the scale is even, and fits
doubled : (width : ℕ) → 1 ≤ width → 2 ^ width ≡ 2 * (2 ^ width / 2)
doubled width some =
    let next : 2 ^ (width - 1 + 1) ≡ 2 ^ (width - 1) * 2 = pow_more 2 (width - 1) in
    let same : width - 1 + 1 ≡ width = omega (arith, some) in
    let half = rw same at next in
    omega (arith, half)

pub returns : goal.returns
returns c =
    let width = c.args.width in
    let number = c.args.number in
    let even = doubled width c.requires.width.0 in
    let more = pow_pos width in
    let most : 2 ^ width ≤ 2 ^ 32 = pow-le-pow_right {n = 2} (omega arith) {i = width} {j = 32} c.requires.width.1 in
    let scale : 1 * 2 ^ width % 2 ^ 64 ≡ 2 ^ width = omega (arith, most) in
    let twice : 2 ^ (width + 1) ≡ 2 * 2 ^ width = omega (arith, pow_more 2 width) in
    let below = rw (c.from.ensures, scale) at c.from-is_below.ensures in
    let rounded = rw (c.from.ensures, scale, twice) at c.min.ensures in
    let point : c.cast_signed.result ≡ point_of (integer_fraction width number) =
    c.cast_signed.ensures
    ∙ offset_point number (2 ^ width) (2 ^ width / 2) c.min.result even (omega (arith, even, more)) c.requires.number
    c.from-is_below.result below rounded in
    search (rules, point)
