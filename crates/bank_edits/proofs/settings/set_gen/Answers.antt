use Rattle.edit_forms.specs.declared.settings.SettingStep.TheVariants.{SetGen}
use Rattle.edit_forms.specs.declared.step.Step.TheVariants as steps
use Rattle.edit_refusals.proofs.Accepted.{accepted}
use Rattle.edit_refusals.proofs.PlaceLaws.{there_found}
use Rattle.edit_refusals.proofs.SettingLaws.{set_gen_allowed, sound_set_gen}
use Rattle.bank_edits.proofs.settings.set_gen.Goals as goal

pub set_gen-requires-clause-there : goal.set_gen-requires-clause-there
set_gen-requires-clause-there c =
    let b = c.args.bank.now in
    let g =
    set_gen_allowed b c.args.owner c.args.place c.args.operator c.args.amount
    (accepted b (steps.Setting c.args.owner c.args.place (SetGen c.args.operator c.args.amount))
    c.requires.accepted).tests
    in
    there_found b c.args.owner c.args.place g.allows.owner g.allows.zone

pub set_gen-requires-clause-sound : goal.set_gen-requires-clause-sound
set_gen-requires-clause-sound c =
    sound_set_gen c.args.bank.now c.args.owner c.args.place c.args.operator c.args.amount c.requires.sound
    c.ranges.operator.fits c.ranges.amount.fits c.requires.accepted
