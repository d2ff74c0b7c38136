use Rattle.edit_refusals.proofs.instruments.refuse_instrument_step.Goals as goal

pub returns-in-RenameInstrument : goal.returns-in-RenameInstrument
returns-in-RenameInstrument c = rw c.in-RenameInstrument.is (c.refuse_rename_instrument.ensures _)

pub returns-in-MoveInstrument : goal.returns-in-MoveInstrument
returns-in-MoveInstrument c = rw c.in-MoveInstrument.is c.refuse_move_instrument.ensures
