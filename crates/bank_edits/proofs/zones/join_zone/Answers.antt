use Rattle.std.proofs.Common.{arith}
use Rattle.edit_refusals.proofs.ZoneLaws.{can_of_join_zone, sound_join_zone, next_of_join_zone}
use Rattle.bank_edits.proofs.zones.join_zone.Goals as goal

pub join_zone-requires-clause-there : goal.join_zone-requires-clause-there
join_zone-requires-clause-there c =
    can_of_join_zone c.args.bank.now c.args.owner c.args.zone c.args.axis c.args.keep c.requires.accepted

pub join_zone-requires-clause-sound : goal.join_zone-requires-clause-sound
join_zone-requires-clause-sound c =
    sound_join_zone c.args.bank.now c.args.owner c.args.zone c.args.axis c.args.keep c.requires.sound
    c.requires.accepted

pub overflow_add-next : goal.overflow_add-next
overflow_add-next c =
    let h =
    next_of_join_zone c.args.bank.now c.args.owner c.args.zone c.args.axis c.args.keep c.requires.sound
    c.requires.accepted in
    omega (arith, h)
