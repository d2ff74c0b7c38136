use Rattle.std.proofs.Common.{Ok}
use Rattle.bank_format.specs.ReadChecks.{fault_of}
use Rattle.sfbank.specs.Outcome.{after_reading}
use Rattle.sfbank.specs.Steps.{IsReadAs}
use Rattle.sfbank.proofs.FoundEdits.{at_read, edits_fail, edits_put}
use Rattle.sfbank.proofs.OutcomeLaws.{bank_fails}
use Rattle.sfbank.proofs.program.planned.put_planned.Goals as goal

pub returns-in-Ok : goal.returns-in-Ok
returns-in-Ok g c purpose serves =
    let file = c.args.file.now in
    let read : IsReadAs file c.in-Ok.bank = (c.in-Ok._counts, c.in-Ok.ensures) in
    edits_put c.args.paths purpose file (after_reading (fault_of file) (Ok purpose)) _ _ _ c.put_edits.result
    (at_read file c.in-Ok.bank (Ok purpose) read) (c.put_edits.ensures purpose file serves read)

pub returns-in-Err : goal.returns-in-Err
returns-in-Err g c purpose serves =
    let file = c.args.file.now in
    edits_fail _ _ _ c.args.paths file c.in-Err.fault (after_reading (fault_of file) (Ok purpose))
    (bank_fails (λ both. both) c.in-Err.fault file (Ok purpose) c.in-Err.ensures)
