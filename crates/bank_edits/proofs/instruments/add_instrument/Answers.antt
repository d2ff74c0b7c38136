use Rattle.edit_refusals.proofs.InstrumentLaws.{add_instrument_allowed, sound_add_instrument}
use Rattle.bank_edits.proofs.instruments.add_instrument.Goals as goal

pub add_instrument-requires-clause-place : goal.add_instrument-requires-clause-place
add_instrument-requires-clause-place c =
    (add_instrument_allowed c.args.bank.now c.args.at c.args.instrument c.fits.ensures c.requires.accepted).place

pub add_instrument-requires-clause-sound : goal.add_instrument-requires-clause-sound
add_instrument-requires-clause-sound c =
    sound_add_instrument c.args.bank.now c.args.at c.args.instrument c.requires.sound c.fits.ensures
    c.requires.accepted
