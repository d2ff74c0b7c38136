use Rattle.sfbank.specs.Purposes.{Merging, merging}
use Rattle.sfbank.proofs.FoundEdits.{edits_fail, edits_put}
use Rattle.sfbank.proofs.program.merge.put_merged.Goals as goal

pub returns-in-Ok : goal.returns-in-Ok
returns-in-Ok g c =
    let file = c.args.file.now in
    let purpose = Merging c.in-Ok.from c.args.shift in
    edits_put c.args.paths purpose file (merging file c.args.other.now c.args.shift) _ _ _ c.put_edits.result
    c.in-Ok.ensures.1 (c.put_edits.ensures purpose file (λ b edits h. h) c.in-Ok.ensures.0)

pub returns-in-Err : goal.returns-in-Err
returns-in-Err g c =
    edits_fail _ _ _ c.args.paths c.args.file.now c.in-Err.fault (merging c.args.file.now c.args.other.now c.args.shift)
    c.in-Err.ensures
