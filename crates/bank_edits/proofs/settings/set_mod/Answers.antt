use Rattle.std.proofs.Common.{◌<◌, length}
use Rattle.edit_refusals.proofs.Accepted.{accepted}
use Rattle.edit_forms.specs.declared.settings.SettingStep.TheVariants.{SetMod}
use Rattle.edit_forms.specs.declared.step.Step.TheVariants as steps
use Rattle.edit_refusals.proofs.SettingLaws.{mod_changes, sound_set_mod}
use Rattle.bank_edits.proofs.SettingLaws.{inverse_of_set_mod}
use Rattle.edit_refusals.proofs.PlaceLaws.{some_settings, mods_hold}
use Rattle.bank_edits.proofs.settings.set_mod.Goals as goal

pub set_mod-replaced-requires-clause-there : goal.set_mod-replaced-requires-clause-there
set_mod-replaced-requires-clause-there c =
    let g =
    mod_changes c.args.bank.now c.args.owner c.args.place c.args.index c.args.modulator
    (accepted c.args.bank.now
    (steps.Setting c.args.owner c.args.place (SetMod c.args.index c.args.modulator)) c.requires.accepted).tests
    in
    some_settings c.args.bank.now c.args.owner c.args.place g.settings g.holds.there

pub set_mod-replaced-requires-clause-place : goal.set_mod-replaced-requires-clause-place
set_mod-replaced-requires-clause-place c =
    let g =
    mod_changes c.args.bank.now c.args.owner c.args.place c.args.index c.args.modulator
    (accepted c.args.bank.now
    (steps.Setting c.args.owner c.args.place (SetMod c.args.index c.args.modulator)) c.requires.accepted).tests
    in
    mods_hold c.args.bank.now c.args.owner c.args.place g.settings g.holds.there (λ mods. c.args.index < length mods)
    g.index

pub set_mod-replaced-requires-clause-sound : goal.set_mod-replaced-requires-clause-sound
set_mod-replaced-requires-clause-sound c =
    sound_set_mod c.args.bank.now c.args.owner c.args.place c.args.index c.args.modulator c.requires.sound
    c.modulator_fits.ensures c.requires.accepted

pub returns : goal.returns
returns c = (
  c.set_mod-replaced.ensures.change,
  inverse_of_set_mod c.args.bank.now c.args.owner c.args.place c.args.index c.args.modulator
      c.set_mod-replaced.result c.set_mod-replaced.ensures.value,
)
