use Rattle.sfbank.proofs.FolderPlans.{bank_is}
use Rattle.sfbank.proofs.program.wave_all.save_samples.Goals as goal

pub returns-in-Ok : goal.returns-in-Ok
returns-in-Ok g c printed =
    rw (bank_is c.args.file.now c.in-Ok.bank c.in-Ok._counts c.in-Ok.ensures) (c.save_kit.ensures printed)
