use Rattle.sfbank.specs.Purposes.{Copying, copying}
use Rattle.sfbank.proofs.FoundEdits.{edits_fail, edits_put}
use Rattle.sfbank.proofs.program.copy.put_copied.Goals as goal

pub returns-in-Ok : goal.returns-in-Ok
returns-in-Ok g c =
    let file = c.args.file.now in
    let purpose = Copying c.args.member c.args.name in
    let found = c.in-Ok.ensures c.args.name in
    edits_put c.args.paths purpose file (copying file c.args.member c.args.name) _ _ _ c.put_edits.result found.1
    (c.put_edits.ensures purpose file (λ b edits h. h) found.0)

pub returns-in-Err : goal.returns-in-Err
returns-in-Err g c =
    edits_fail _ _ _ c.args.paths c.args.file.now c.in-Err.fault (copying c.args.file.now c.args.member c.args.name)
    (c.in-Err.ensures c.args.name)
