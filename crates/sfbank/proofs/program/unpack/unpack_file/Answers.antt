use Rattle.std.proofs.Common.{Ok, refl}
use Rattle.sfbank.specs.FolderPlans.{bank_outcome, with_folder}
use Rattle.sfbank.specs.Outcome.{bank_in}
use Rattle.sfbank.proofs.FolderPlans.{bank_is}
use Rattle.sfbank.proofs.OutcomeLaws.{bank_fails, outcome_fails}
use Rattle.sfbank.proofs.program.unpack.unpack_file.Goals as goal

pub returns-in-Ok : goal.returns-in-Ok
returns-in-Ok g c printed =
    let p = c.args.paths in
    rw (bank_is c.args.file.now c.in-Ok.bank c.in-Ok._counts c.in-Ok.ensures) (c.unpack_bank.ensures printed)

pub returns-in-Err : goal.returns-in-Err
returns-in-Err g c printed =
    let p = c.args.paths in
    outcome_fails _ printed _ p.folder (λ w r. with_folder p r) c.in-Err.fault (bank_outcome c.args.file.now) (λ w f. refl)
    (bank_fails (λ both. both) c.in-Err.fault c.args.file.now (Ok (bank_in c.args.file.now)) c.in-Err.ensures)
