use Rattle.sfbank.specs.Prepared.{texts_of_bank}
use Rattle.sfbank.proofs.PlannedEdits.{run_finds, run_finds_none, serves_purpose}
use Rattle.sfbank.proofs.planned.run_edits.Goals as goal

pub returns-in-Ok : goal.returns-in-Ok
returns-in-Ok g c purpose wanted file serves e read =
    let done = texts_of_bank c.in-Ok.edited_bank in
    run_finds purpose wanted _ file c.args.bank done c.write_edited.result e read
    (serves_purpose (g.P.Plan.promise c.args.plan.now) purpose c.args.bank done serves c.in-Ok.ensures) c.write_edited.ensures

pub returns-in-Err : goal.returns-in-Err
returns-in-Err g c purpose wanted file serves e read =
    rw c.of_plan.ensures
    (run_finds_none (Unit {0}) purpose wanted (g.W.Write.contents c.args.out.now) (g.V.Write.contents c.args.undo.now) file
    c.in-Err.fault e)
