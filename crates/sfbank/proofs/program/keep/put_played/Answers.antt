use Rattle.sfbank.specs.Purposes.{keeping_of, keeping_played}
use Rattle.sfbank.proofs.FoundEdits.{edits_fail, edits_put}
use Rattle.sfbank.proofs.KeptNotes.{keeps}
use Rattle.sfbank.proofs.program.keep.put_played.Goals as goal

pub returns-in-Ok : goal.returns-in-Ok
returns-in-Ok g c =
    let file = c.args.file.now in
    let text = c.args.text.now in
    let notes = c.in-Ok.notes.items in
    edits_put c.args.paths (keeping_of c.args.zones notes) file (keeping_played c.args.zones file text) _ _ _ c.put_notes.result
    (keeps c.args.zones file text c.in-Ok.bank notes c.in-Ok.ensures.0 c.in-Ok.ensures.1)
    (rw c.as_slice.ensures.value at (c.put_notes.ensures file c.in-Ok.ensures.0))

pub returns-in-Err : goal.returns-in-Err
returns-in-Err g c =
    edits_fail _ _ _ c.args.paths c.args.file.now c.in-Err.fault (keeping_played c.args.zones c.args.file.now c.args.text.now)
    (c.in-Err.ensures c.args.zones)
