use Rattle.std.proofs.Common.{◌≤◌, length}
use Rattle.edit_forms.specs.declared.settings.SettingStep.TheVariants.{AddMod}
use Rattle.edit_forms.specs.declared.step.Step.TheVariants as steps
use Rattle.edit_refusals.proofs.Accepted.{accepted}
use Rattle.edit_refusals.proofs.SettingLaws.{add_mod_allowed, sound_add_mod}
use Rattle.edit_refusals.proofs.PlaceLaws.{some_settings, mods_hold}
use Rattle.bank_edits.proofs.settings.add_mod.Goals as goal

pub add_mod-requires-clause-there : goal.add_mod-requires-clause-there
add_mod-requires-clause-there c =
    let g =
    add_mod_allowed c.args.bank.now c.args.owner c.args.place c.args.index c.args.modulator
    (accepted c.args.bank.now
    (steps.Setting c.args.owner c.args.place (AddMod c.args.index c.args.modulator)) c.requires.accepted).tests
    in
    some_settings c.args.bank.now c.args.owner c.args.place g.settings g.holds.there

pub add_mod-requires-clause-place : goal.add_mod-requires-clause-place
add_mod-requires-clause-place c =
    let g =
    add_mod_allowed c.args.bank.now c.args.owner c.args.place c.args.index c.args.modulator
    (accepted c.args.bank.now
    (steps.Setting c.args.owner c.args.place (AddMod c.args.index c.args.modulator)) c.requires.accepted).tests
    in
    mods_hold c.args.bank.now c.args.owner c.args.place g.settings g.holds.there (λ mods. c.args.index ≤ length mods)
    g.place

pub add_mod-requires-clause-sound : goal.add_mod-requires-clause-sound
add_mod-requires-clause-sound c =
    sound_add_mod c.args.bank.now c.args.owner c.args.place c.args.index c.args.modulator c.requires.sound
    c.modulator_fits.ensures c.requires.accepted
