use Rattle.edit_refusals.proofs.ZoneLaws.{moves_of_move_zone, sound_move_zone}
use Rattle.bank_edits.proofs.zones.move_zone.Goals as goal

pub move_zone-requires-clause-there : goal.move_zone-requires-clause-there
move_zone-requires-clause-there c =
    (moves_of_move_zone c.args.bank.now c.args.owner c.args.from c.args.to c.requires.accepted).there

pub move_zone-requires-clause-place : goal.move_zone-requires-clause-place
move_zone-requires-clause-place c =
    (moves_of_move_zone c.args.bank.now c.args.owner c.args.from c.args.to c.requires.accepted).place

pub move_zone-requires-clause-sound : goal.move_zone-requires-clause-sound
move_zone-requires-clause-sound c =
    sound_move_zone c.args.bank.now c.args.owner c.args.from c.args.to c.requires.sound c.requires.accepted
