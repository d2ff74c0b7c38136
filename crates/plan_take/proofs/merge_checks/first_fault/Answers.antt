use Rattle.std.proofs.Common.{◌≡◌, ◌≤◌, suc, ◌+◌, length, drop, sym, ap, ◌∙◌, arith, rules}
use Rattle.plan_take.specs.Merging.{first_shift_fault}
use Rattle.plan_take.proofs.FaultLaws.{found_first, not_found}
use Rattle.plan_take.proofs.ShiftLaws.{shift_from, no_more}
use Rattle.plan_take.proofs.merge_checks.first_fault.Goals as goal

pub returns-in-Some : goal.returns-in-Some
returns-in-Some c b same =
    sym
    (c.loop-i.invariant b same
    ∙ shift_from b c.args.shift c.args.presets.now c.loop-i.i c.head.result.now c.shift_fault.result c.head.ensures
    (c.shift_fault.ensures b same)
    ∙ found_first c.in-Some.fault c.shift_fault.result _ c.in-Some.is)

pub loop-i-preserved : goal.loop-i-preserved
loop-i-preserved c b same =
    let next : suc c.loop-i.i ≡ c.loop-i.i + 1 = omega arith in
    c.loop-i.invariant b same
    ∙ shift_from b c.args.shift c.args.presets.now c.loop-i.i c.head.result.now c.shift_fault.result c.head.ensures
    (c.shift_fault.ensures b same)
    ∙ not_found c.shift_fault.result _ c.in_default.is
    ∙ ap (λ m. first_shift_fault b c.args.shift (drop m c.args.presets.now)) next

pub returns : goal.returns
returns c b same =
    let all : length c.args.presets.now ≤ c.loop-i.i = search rules in
    sym (c.loop-i.invariant b same ∙ no_more b c.args.shift c.args.presets.now c.loop-i.i all)
