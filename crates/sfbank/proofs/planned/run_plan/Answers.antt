use Rattle.std.proofs.Common.{Ok}
use Rattle.bank_format.specs.ReadChecks.{fault_of}
use Rattle.sfbank.specs.Outcome.{after_reading}
use Rattle.sfbank.specs.Steps.{IsReadAs}
use Rattle.sfbank.proofs.FoundEdits.{at_read}
use Rattle.sfbank.proofs.OutcomeLaws.{bank_fails}
use Rattle.sfbank.proofs.PlannedEdits.{run_fails}
use Rattle.sfbank.proofs.planned.run_plan.Goals as goal

pub returns-in-Ok : goal.returns-in-Ok
returns-in-Ok g c purpose serves =
    let file = c.args.file.now in
    let read : IsReadAs file c.in-Ok.bank = (c.in-Ok._counts, c.in-Ok.ensures) in
    c.run_edits.ensures purpose (after_reading (fault_of file) (Ok purpose)) file serves
    (at_read file c.in-Ok.bank (Ok purpose) read) read

pub returns-in-Err : goal.returns-in-Err
returns-in-Err g c purpose serves =
    let file = c.args.file.now in
    run_fails (Unit {0}) (after_reading (fault_of file) (Ok purpose)) (g.W.Write.contents c.args.out.now)
    (g.V.Write.contents c.args.undo.now) file c.in-Err.fault
    (bank_fails (λ both. both) c.in-Err.fault file (Ok purpose) c.in-Err.ensures)
