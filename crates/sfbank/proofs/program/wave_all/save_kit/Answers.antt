use Rattle.sfbank.proofs.program.wave_all.save_kit.Goals as goal

pub returns-in-Ok : goal.returns-in-Ok
returns-in-Ok g c printed = rw c.in-Ok.ensures (c.save_instrument.ensures printed)
