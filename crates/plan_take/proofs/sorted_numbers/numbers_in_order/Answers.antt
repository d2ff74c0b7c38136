use Rattle.std.proofs.Common.{◌≡◌, suc, ◌+◌, ◌++◌, ◌∷◌, [], map, take, ap, ◌∙◌, arith}
use Rattle.plan_take.specs.Sorted.{pair_of}
use Rattle.plan_take.proofs.ShiftLaws.{pairs_next}
use Rattle.plan_take.proofs.sorted_numbers.numbers_in_order.Goals as goal

pub loop-i-preserved : goal.loop-i-preserved
loop-i-preserved c =
    let h = c.head-head.result.now in
    let next : suc c.loop-i.i ≡ c.loop-i.i + 1 = omega arith in
    c.in_ok-push.ensures.items
    ∙ ap (λ xs. xs ++ (h.bank, h.number) ∷ []) c.loop-i.invariant
    ∙ pairs_next c.args.presets.now c.loop-i.i h c.head-head.ensures
    ∙ ap (λ m. map pair_of (take m c.args.presets.now)) next
