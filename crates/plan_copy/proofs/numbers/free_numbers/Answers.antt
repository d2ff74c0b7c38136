use Rattle.std.proofs.Common.{true, false, not, Some, sym, ap, ◌∙◌}
use Rattle.plan_presets.specs.declared.numbers.PresetNumbers.{PresetNumbers}
use Rattle.plan_take.specs.Taking.{has_preset}
use Rattle.plan_copy.specs.Copying.{candidate}
use Rattle.plan_copy.proofs.NumberLaws.{next_passes, next_fails, none_passes, not_used}
use Rattle.plan_copy.proofs.numbers.free_numbers.Goals as goal

pub loop-n-preserved : goal.loop-n-preserved
loop-n-preserved c =
    let presets = c.args.bank.now.presets in
    c.loop-n.invariant
    ∙ next_fails (λ (k : PresetNumbers). not (has_preset presets k)) c.args.original c.loop-n.n c.loop-n-test.true
    (not_used c.presets.result.now presets c.candidate-numbers.result (candidate c.args.original c.loop-n.n)
    c.has_preset.result true c.has_preset.ensures c.presets.ensures.value c.candidate-numbers.ensures
    c.if-not-has_preset.false)

pub returns-then-not-has_preset : goal.returns-then-not-has_preset
returns-then-not-has_preset c =
    let presets = c.args.bank.now.presets in
    ap Some c.candidate-numbers.ensures
    ∙ sym
    (next_passes (λ (k : PresetNumbers). not (has_preset presets k)) c.args.original c.loop-n.n c.loop-n-test.true
    c.loop-n.invariant
    (not_used c.presets.result.now presets c.candidate-numbers.result (candidate c.args.original c.loop-n.n)
    c.has_preset.result false c.has_preset.ensures c.presets.ensures.value c.candidate-numbers.ensures
    c.if-not-has_preset.true))

pub returns : goal.returns
returns c =
    sym
    (c.loop-n.invariant
    ∙ none_passes (λ (k : PresetNumbers). not (has_preset c.args.bank.now.presets k)) c.args.original c.loop-n.n
    c.loop-n-test.false)
