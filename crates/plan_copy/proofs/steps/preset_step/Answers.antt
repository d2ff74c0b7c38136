use Rattle.std.proofs.Common.{sym, ap, ◌∙◌}
use Rattle.plan_presets.specs.declared.numbers.PresetNumbers.{PresetNumbers}
use Rattle.plan_copy.specs.Copying.{numbers_for}
use Rattle.plan_copy.proofs.StepLaws.{adds_preset}
use Rattle.plan_copy.proofs.steps.preset_step.Goals as goal

pub returns : goal.returns
returns c =
    let b = c.args.bank.now in
    adds_preset b c.args.number c.count-at.result c.args.given c.args.name c.in-Some.original c.in-Ok.numbers
    c.in_ok-preset.preset c.unwrap_or.result c.presets.result.now (sym c.in-Some.ensures)
    (ap (λ (k : PresetNumbers). numbers_for b k c.args.given) (sym c.numbers_of.ensures) ∙ sym c.in-Ok.ensures)
    c.unwrap_or.ensures c.presets.ensures.value c.in_ok-preset.ensures c.count-at.ensures
