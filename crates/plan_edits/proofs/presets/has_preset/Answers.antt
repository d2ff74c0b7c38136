use Rattle.std.proofs.Common.{◌≡◌, ◌∙◌, ◌+◌, suc, ap, sym, drop, arith}
use Rattle.std.specs.List.{list_any}
use Rattle.plan_edits.proofs.PresetSearch.{any_from, has_numbers, any_once, none_yet}
use Rattle.plan_edits.proofs.presets.has_preset.Goals as goal

pub returns-then-are_numbers_of : goal.returns-then-are_numbers_of
returns-then-are_numbers_of c =
    let head = rw c.presets-presets.ensures.value at c.head.ensures in
    any_once _ _ (sym c.are_numbers_of.ensures ∙ c.if-are_numbers_of.true)
    ∙ sym (any_from c.args.numbers c.args.bank.now.presets c.loop-preset.preset c.head.result.now head)
    ∙ sym c.loop-preset.invariant

pub loop-preset-preserved : goal.loop-preset-preserved
loop-preset-preserved c =
    let i = c.loop-preset.preset in
    let presets = c.args.bank.now.presets in
    let head = rw c.presets-presets.ensures.value at c.head.ensures in
    let next : suc i ≡ i + 1 = omega arith in
    c.loop-preset.invariant
    ∙ any_from c.args.numbers presets i c.head.result.now head
    ∙ none_yet _ _ (sym c.are_numbers_of.ensures ∙ c.if-are_numbers_of.false)
    ∙ ap (λ n. list_any (has_numbers c.args.numbers) (drop n presets)) next
