use Rattle.edit_refusals.proofs.ZoneLaws.{can_remove_zone, sound_remove_zone}
use Rattle.bank_edits.proofs.zones.remove_zone.Goals as goal

pub remove_zone-requires-clause-there : goal.remove_zone-requires-clause-there
remove_zone-requires-clause-there c = can_remove_zone c.args.bank.now c.args.owner c.args.zone c.requires.accepted

pub remove_zone-requires-clause-sound : goal.remove_zone-requires-clause-sound
remove_zone-requires-clause-sound c =
    sound_remove_zone c.args.bank.now c.args.owner c.args.zone c.requires.sound c.requires.accepted
