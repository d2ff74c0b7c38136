use Rattle.std.proofs.Common.{◌≤◌, length, sym, ◌∙◌, rules}
use Rattle.kit_edits.proofs.SearchLaws.{has_none_here, has_one_here, has_none_past}
use Rattle.kit_edits.proofs.edits.has_preset.Goals as goal

pub loop-i-preserved : goal.loop-i-preserved
loop-i-preserved c =
    c.loop-i.invariant
    ∙ has_none_here c.args.numbers c.args.presets.now c.loop-i.i c.head.result.now c.head.ensures
    (sym c.has_numbers.ensures ∙ c.if-has_numbers.false)

pub returns-then-has_numbers : goal.returns-then-has_numbers
returns-then-has_numbers c =
    sym
    (c.loop-i.invariant
    ∙ has_one_here c.args.numbers c.args.presets.now c.loop-i.i c.head.result.now c.head.ensures
    (sym c.has_numbers.ensures ∙ c.if-has_numbers.true))

pub returns : goal.returns
returns c =
    let all : length c.args.presets.now ≤ c.loop-i.i = search rules in
    sym (c.loop-i.invariant ∙ has_none_past c.args.numbers c.args.presets.now c.loop-i.i all)
