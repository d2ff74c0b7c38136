use Rattle.sfbank.proofs.FoundEdits.{no_edits}
use Rattle.sfbank.proofs.program.planned.put_edits.Goals as goal

pub returns-in-Ok : goal.returns-in-Ok
returns-in-Ok g c purpose file serves read =
    c.put_found.ensures purpose file (serves c.args.bank c.in-Ok.edits.items c.in-Ok.ensures.promised) read

pub returns : goal.returns
returns g c purpose file serves read =
    rw c.of_plan.ensures (no_edits _ _ _ c.args.paths purpose file c.args.paths.out c.in-Err.fault)
