use Rattle.std.proofs.Common.{[]}
use Rattle.bank_validity.specs.Limits.{broken_limit}
use Rattle.edit_forms.specs.declared.presets.PresetStep.TheVariants.{SetHead}
use Rattle.edit_forms.specs.declared.step.Step.TheVariants as steps
use Rattle.edit_forms.specs.Causes.{no_such_preset}
use Rattle.edit_forms.specs.Steps.{raw}
use Rattle.edit_refusals.proofs.Accepted.{by_last}
use Rattle.edit_refusals.proofs.PresetLaws.{within_set_head}
use Rattle.edit_refusals.proofs.presets.refuse_set_head.Goals as goal

pub returns : goal.returns
returns c = λ name number bank_number.
    let b = c.args.bank.now in
    by_last [] (no_such_preset b c.args.preset)
    (broken_limit (raw b (steps.Preset (SetHead c.args.preset name number bank_number)))) c.no_such_preset.result
    tt c.no_such_preset.ensures
    (λ h. within_set_head b c.args.preset name number bank_number c.requires.valid)
