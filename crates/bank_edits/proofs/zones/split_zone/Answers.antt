use Rattle.edit_refusals.proofs.ZoneLaws.{can_of_split_zone, sound_split_zone}
use Rattle.bank_edits.proofs.zones.split_zone.Goals as goal

pub split_zone-requires-clause-there : goal.split_zone-requires-clause-there
split_zone-requires-clause-there c =
    can_of_split_zone c.args.bank.now c.args.owner c.args.zone c.args.axis c.args.at c.requires.accepted

pub split_zone-requires-clause-sound : goal.split_zone-requires-clause-sound
split_zone-requires-clause-sound c =
    sound_split_zone c.args.bank.now c.args.owner c.args.zone c.args.axis c.args.at c.requires.sound
    c.requires.accepted
