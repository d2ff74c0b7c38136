use Rattle.edit_refusals.proofs.ZoneLaws.{can_set_target, sound_set_target}
use Rattle.bank_edits.proofs.ZoneLaws.{inverse_of_set_target}
use Rattle.bank_edits.proofs.zones.set_target.Goals as goal

pub set_target-was-requires-clause-there : goal.set_target-was-requires-clause-there
set_target-was-requires-clause-there c =
    (can_set_target c.args.bank.now c.args.owner c.args.zone c.args.target c.requires.accepted).there

pub set_target-was-requires-clause-sound : goal.set_target-was-requires-clause-sound
set_target-was-requires-clause-sound c =
    sound_set_target c.args.bank.now c.args.owner c.args.zone c.args.target c.requires.sound c.ranges.target.fits
    c.requires.accepted

pub returns : goal.returns
returns c = (
  c.set_target-was.ensures.change,
  inverse_of_set_target c.args.bank.now c.args.owner c.args.zone c.args.target c.set_target-was.result
      c.set_target-was.ensures.value,
)
