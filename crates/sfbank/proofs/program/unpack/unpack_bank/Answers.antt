use Rattle.sfbank.proofs.program.unpack.unpack_bank.Goals as goal

pub returns-in-Ok : goal.returns-in-Ok
returns-in-Ok g c printed = rw (c.samples.ensures.value, c.in-Ok.ensures) at (c.save_folder.ensures printed)
