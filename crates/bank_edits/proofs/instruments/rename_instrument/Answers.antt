use Rattle.bank_changes.proofs.InstrumentLaws.{instrument_renamed_sound}
use Rattle.bank_edits.proofs.InstrumentLaws.{inverse_of_rename_instrument}
use Rattle.bank_edits.proofs.instruments.rename_instrument.Goals as goal

pub rename_instrument-old-requires-clause-sound : goal.rename_instrument-old-requires-clause-sound
rename_instrument-old-requires-clause-sound c =
    instrument_renamed_sound c.args.bank.now c.args.instrument c.args.name c.requires.sound
    c.bytes-bytes.ensures.named

pub returns : goal.returns
returns c =
    let b = c.args.bank.now in (
      c.rename_instrument-old.ensures.change,
      inverse_of_rename_instrument b c.args.instrument c.args.name c.rename_instrument-old.result
          c.rename_instrument-old.ensures.value,
    )
