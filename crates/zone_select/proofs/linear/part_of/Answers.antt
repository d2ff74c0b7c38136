use Rattle.std.proofs.Common.{◌≡◌, ◌<◌, ◌≤ℤ◌, ◌*ℤ◌, pos, negsuc, SFits, ◌∙◌, arith}
use Rattle.std.specs.Int.{w32, int_div_euclid}
use Rattle.std.proofs.lemmas.Int.{ints, to_z-of_z, to_z_pos}
use Rattle.sound_tables.specs.Floor.{floor_div}
use Rattle.zone_select.proofs.LinearLaws.{euclid_is_floor, product_fits, part_within}
use Rattle.zone_select.proofs.linear.part_of.Goals as goal

pub overflow_mul-amount : goal.overflow_mul-amount
overflow_mul-amount c =
    let fa : SFits w32 c.args.amount = c.ranges.amount in
    let fp : SFits w32 c.args.parts = c.ranges.parts in
    simp to_z-of_z
    (product_fits c.args.amount c.args.parts c.args.whole c.requires.whole.1 c.requires.amount.0
    c.requires.amount.1 c.requires.parts.0 c.requires.parts.1)

pub returns-clause-within : goal.returns-clause-within
returns-clause-within c =
    let fa : SFits w32 c.args.amount = c.ranges.amount in
    let fp : SFits w32 c.args.parts = c.ranges.parts in
    let fz : SFits w32 (c.args.amount *ℤ c.args.parts) =
    product_fits c.args.amount c.args.parts c.args.whole c.requires.whole.1 c.requires.amount.0
    c.requires.amount.1 c.requires.parts.0 c.requires.parts.1 in
    let fw : c.args.whole < 2147483648 = omega arith in
    let w =
    part_within c.args.amount c.args.parts c.args.whole c.requires.whole.0 c.requires.amount.0
    c.requires.amount.1 c.requires.parts.0 c.requires.parts.1 in
    let g : c.div_euclid.result ≡ int_div_euclid (c.args.amount *ℤ c.args.parts) (pos c.args.whole) =
    simp (to_z-of_z, to_z_pos) at c.div_euclid.ensures in
    let e : c.div_euclid.result ≡ floor_div (c.args.amount *ℤ c.args.parts) c.args.whole =
    g ∙ euclid_is_floor (c.args.amount *ℤ c.args.parts) c.args.whole in
    let low : negsuc 65535 ≤ℤ c.div_euclid.result = rw e w.0 in
    let high : c.div_euclid.result ≤ℤ pos 65536 = rw e w.1 in
    (omega (arith, ints, low, high), omega (arith, ints, low, high))
