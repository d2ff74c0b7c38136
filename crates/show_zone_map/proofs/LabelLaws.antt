-- The labels of a left and a right sample are on different lines.
use Rattle.std.proofs.Common.{◌<◌, ℕ, zero, suc, ◌+◌, ◌*◌, ◌/◌, ◌%◌, Bool, true, false, cond, unwrap_or, subst, arith}
use Rattle.std.specs.Prelude.{nat_le, nat_lt}
use Rattle.std.proofs.lemmas.Bool.{and_parts, leb-true}
use Rattle.show_zone_map.specs.declared.rectangle.Area.{Area}
use Rattle.show_zone_map.specs.Picture.{count, LeftIsAbove}

-- on two of four lines of a rectangle for c velocities
apart_of_four : (c a b : ℕ) → 0 < c → a < 2 → b < 2 → 4 * c * (1 + (2 * 0 + a)) / 5 < 4 * c * (1 + (2 * 1 + b)) / 5
apart_of_four c zero zero some h k = omega (arith, some)
apart_of_four c zero (suc zero) some h k = omega (arith, some)
apart_of_four c (suc zero) zero some h k = omega (arith, some)
apart_of_four c (suc zero) (suc zero) some h k = omega (arith, some)
apart_of_four c (suc (suc a)) b some h k = absurd (omega (arith, h))
apart_of_four c a (suc (suc b)) some h k = absurd (omega (arith, k))

apart : (low : Bool) (c a b : ℕ) → 0 < c → a < 2 → b < 2
    → cond low (4 * c * (1 + 2 * 0) / 4) (4 * c * (1 + (2 * 0 + a)) / 5)
    < cond low (4 * c * (1 + 2 * 1) / 4) (4 * c * (1 + (2 * 1 + b)) / 5)
apart true c a b some h k = omega (arith, some)
apart false c a b some h k = apart_of_four c a b some h k

pub left_is_above : LeftIsAbove
left_is_above x y s t notes same =
    let keys = x.area.keys in
    let velocities = x.area.velocities in
    let both = and_parts (nat_le keys.low keys.high) (nat_le velocities.low velocities.high) notes in
    let ranges = leb-true velocities.low velocities.high both.1 in
    let some : 0 < count x.area.velocities = omega (arith, ranges) in
    let a = (unwrap_or x.preset_zone 0 % 2 + (x.zone / 2) % 2) % 2 in
    let b = (unwrap_or y.preset_zone 0 % 2 + (y.zone / 2) % 2) % 2 in
    subst
    (λ (area : Area).
    cond (nat_lt (4 * count x.area.velocities) 80) (4 * count x.area.velocities * (1 + 2 * 0) / 4)
    (4 * count x.area.velocities * (1 + (2 * 0 + a)) / 5)
    < cond (nat_lt (4 * count area.velocities) 80) (4 * count area.velocities * (1 + 2 * 1) / 4)
    (4 * count area.velocities * (1 + (2 * 1 + b)) / 5))
    same
    (apart (nat_lt (4 * count x.area.velocities) 80) (count x.area.velocities) a b some (omega arith) (omega arith))
