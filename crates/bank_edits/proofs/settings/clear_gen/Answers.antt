use Rattle.edit_forms.specs.declared.settings.SettingStep.TheVariants.{ClearGen}
use Rattle.edit_forms.specs.declared.step.Step.TheVariants as steps
use Rattle.edit_refusals.proofs.Accepted.{accepted}
use Rattle.edit_refusals.proofs.PlaceLaws.{there_found}
use Rattle.edit_refusals.proofs.SettingLaws.{clear_gen_allowed, sound_clear_gen}
use Rattle.bank_edits.proofs.settings.clear_gen.Goals as goal

pub clear_gen-requires-clause-there : goal.clear_gen-requires-clause-there
clear_gen-requires-clause-there c =
    let b = c.args.bank.now in
    let g =
    clear_gen_allowed b c.args.owner c.args.place c.args.operator
    (accepted b (steps.Setting c.args.owner c.args.place (ClearGen c.args.operator)) c.requires.accepted).tests
    in
    there_found b c.args.owner c.args.place g.allows.owner g.allows.zone

pub clear_gen-requires-clause-sound : goal.clear_gen-requires-clause-sound
clear_gen-requires-clause-sound c =
    sound_clear_gen c.args.bank.now c.args.owner c.args.place c.args.operator c.requires.sound c.requires.accepted
