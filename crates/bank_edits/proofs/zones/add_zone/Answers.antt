use Rattle.edit_forms.specs.declared.zones.ZoneStep.TheVariants.{AddZone}
use Rattle.edit_forms.specs.declared.step.Step.TheVariants as steps
use Rattle.edit_refusals.proofs.Accepted.{accepted}
use Rattle.edit_refusals.proofs.ZoneLaws.{add_zone_allowed, sound_add_zone}
use Rattle.bank_edits.proofs.zones.add_zone.Goals as goal

pub add_zone-requires-clause-place : goal.add_zone-requires-clause-place
add_zone-requires-clause-place c =
    let b = c.args.bank.now in
    let o = c.args.owner in
    (add_zone_allowed b o c.args.at c.args.zone
    (accepted b (steps.Zone o (AddZone c.args.at c.args.zone)) c.requires.accepted).tests).place

pub add_zone-requires-clause-sound : goal.add_zone-requires-clause-sound
add_zone-requires-clause-sound c =
    sound_add_zone c.args.bank.now c.args.owner c.args.at c.args.zone c.requires.sound c.fits.ensures
    c.requires.accepted
