use Rattle.std.proofs.Common.{Ok}
use Rattle.sfbank.specs.Outcome.{bank_in}
use Rattle.sfbank.proofs.FolderPlans.{bank_is}
use Rattle.sfbank.proofs.OutcomeLaws.{bank_fails}
use Rattle.sfbank.proofs.check.read_checked.Goals as goal

pub returns-in-Ok-findings_of : goal.returns-in-Ok-findings_of
returns-in-Ok-findings_of c =
    (bank_is c.args.file.now c.in-Ok.bank c.in-Ok._counts c.in-Ok.ensures, c.in-Ok-findings_of.ensures)

pub returns : goal.returns
returns c =
    bank_fails (λ both. both) c.in-Err.fault c.args.file.now (Ok (bank_in c.args.file.now)) c.in-Err.ensures
