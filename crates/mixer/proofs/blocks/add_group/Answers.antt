use Rattle.std.proofs.Common.{◌≡◌, ◌<◌, ◌/◌, pos, ◌+ℤ◌, get_or, length, take, ap, ◌∙◌, arith}
use Rattle.std.proofs.lemmas.Grind.{common_steps}
use Rattle.mixer.proofs.Silent.{within_both}
use Rattle.mixer.proofs.blocks.add_group.Goals as goal

pub returns-clause-value : goal.returns-clause-value
returns-clause-value c i h =
    let n = length c.args.totals.now in
    let part : length (take n c.args.sides.now) ≡ n = grind (arith, common_steps, c.requires.short) in
    let there : i < length c.sum_group.new.sides =
    omega (arith, h, part, c.add_to_totals.auto.totals, c.sum_group.auto.sides) in
    c.add_to_totals.ensures i h ∙ ap (λ z. get_or c.args.totals.now i (pos 0) +ℤ z) (c.sum_group.ensures.value i there)

pub returns-clause-room : goal.returns-clause-room
returns-clause-room c j room k h =
    let n = length c.args.totals.now in
    let part : length (take n c.args.sides.now) ≡ n = grind (arith, common_steps, c.requires.short) in
    let halves : length (take (n / 2) c.args.middle.now) ≡ n / 2 = grind (arith, common_steps, c.requires.short) in
    let here : k < n = omega (arith, h, c.add_to_totals.auto.totals) in
    let side : k < length c.sum_group.new.sides = omega (arith, here, part, c.sum_group.auto.sides) in
    let both : k / 2 < length c.sum_group.new.middle =
    omega (arith, here, halves, c.sum_group.auto.middle, c.requires.even) in
    within_both j (length c.args.voices.now) _ _ _ _ (c.add_to_totals.ensures k h) (room k here)
    (c.sum_group.ensures.room k side) (c.sum_group.ensures.middle (k / 2) both)
