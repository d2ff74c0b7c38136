use Rattle.std.proofs.Common.{◌<◌, length}
use Rattle.edit_refusals.proofs.Accepted.{accepted}
use Rattle.edit_forms.specs.declared.settings.SettingStep.TheVariants.{RemoveMod}
use Rattle.edit_forms.specs.declared.step.Step.TheVariants as steps
use Rattle.edit_refusals.proofs.SettingLaws.{remove_mod_allowed, sound_remove_mod}
use Rattle.bank_edits.proofs.SettingLaws.{inverse_of_remove_mod}
use Rattle.edit_refusals.proofs.PlaceLaws.{some_settings, mods_hold}
use Rattle.bank_edits.proofs.settings.remove_mod.Goals as goal

pub remove_mod-modulator-requires-clause-there : goal.remove_mod-modulator-requires-clause-there
remove_mod-modulator-requires-clause-there c =
    let g =
    remove_mod_allowed c.args.bank.now c.args.owner c.args.place c.args.index
    (accepted c.args.bank.now (steps.Setting c.args.owner c.args.place (RemoveMod c.args.index))
    c.requires.accepted).tests
    in
    some_settings c.args.bank.now c.args.owner c.args.place g.settings g.holds.there

pub remove_mod-modulator-requires-clause-place : goal.remove_mod-modulator-requires-clause-place
remove_mod-modulator-requires-clause-place c =
    let g =
    remove_mod_allowed c.args.bank.now c.args.owner c.args.place c.args.index
    (accepted c.args.bank.now (steps.Setting c.args.owner c.args.place (RemoveMod c.args.index))
    c.requires.accepted).tests
    in
    mods_hold c.args.bank.now c.args.owner c.args.place g.settings g.holds.there (λ mods. c.args.index < length mods)
    g.index

pub remove_mod-modulator-requires-clause-sound : goal.remove_mod-modulator-requires-clause-sound
remove_mod-modulator-requires-clause-sound c =
    sound_remove_mod c.args.bank.now c.args.owner c.args.place c.args.index c.requires.sound c.requires.accepted

pub returns : goal.returns
returns c = (
  c.remove_mod-modulator.ensures.change,
  inverse_of_remove_mod c.args.bank.now c.args.owner c.args.place c.args.index c.remove_mod-modulator.result
      c.remove_mod-modulator.ensures.value,
)
