use Rattle.std.proofs.Common.{[]}
use Rattle.bank_validity.specs.Limits.{broken_limit}
use Rattle.edit_forms.specs.declared.presets.PresetStep.TheVariants.{RemovePreset}
use Rattle.edit_forms.specs.declared.step.Step.TheVariants as steps
use Rattle.edit_forms.specs.Causes.{no_such_preset}
use Rattle.edit_forms.specs.Steps.{raw}
use Rattle.edit_refusals.proofs.Accepted.{by_last, below}
use Rattle.edit_refusals.proofs.PresetLaws.{within_remove_preset}
use Rattle.edit_refusals.proofs.presets.refuse_remove_preset.Goals as goal

pub returns : goal.returns
returns c =
    let b = c.args.bank.now in
    let i = c.args.preset in
    by_last [] (no_such_preset b i) (broken_limit (raw b (steps.Preset (RemovePreset i)))) c.no_such_preset.result tt
    c.no_such_preset.ensures
    (λ there. within_remove_preset b i c.requires (below _ i there))
