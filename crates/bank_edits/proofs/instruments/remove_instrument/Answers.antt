use Rattle.edit_refusals.proofs.InstrumentLaws.{sound_remove_instrument}
use Rattle.bank_edits.proofs.instruments.remove_instrument.Goals as goal

pub remove_instrument-requires-clause-sound : goal.remove_instrument-requires-clause-sound
remove_instrument-requires-clause-sound c =
    sound_remove_instrument c.args.bank.now c.args.instrument c.requires.sound c.requires.accepted
