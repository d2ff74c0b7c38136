use Rattle.edit_refusals.proofs.InstrumentLaws.{moves_instrument, sound_move_instrument}
use Rattle.bank_edits.proofs.instruments.move_instrument.Goals as goal

pub move_instrument-requires-clause-there : goal.move_instrument-requires-clause-there
move_instrument-requires-clause-there c =
    (moves_instrument c.args.bank.now c.args.from c.args.to c.requires.accepted).there

pub move_instrument-requires-clause-place : goal.move_instrument-requires-clause-place
move_instrument-requires-clause-place c =
    (moves_instrument c.args.bank.now c.args.from c.args.to c.requires.accepted).place

pub move_instrument-requires-clause-sound : goal.move_instrument-requires-clause-sound
move_instrument-requires-clause-sound c =
    sound_move_instrument c.args.bank.now c.args.from c.args.to c.requires.sound c.requires.accepted
