use Rattle.script_notes.specs.Notes.{notes_of}
use Rattle.sfbank.specs.Purposes.{keeping_notes, notes_read}
use Rattle.sfbank.proofs.KeptNotes.{notes_fail, notes_parsed}
use Rattle.sfbank.proofs.OutcomeLaws.{bank_fails}
use Rattle.sfbank.proofs.played_notes.read_to_keep.Goals as goal

pub returns-in-Ok-read_notes : goal.returns-in-Ok-read_notes
returns-in-Ok-read_notes c = (
  (c.in-Ok._counts, c.in-Ok.ensures),
  notes_parsed (notes_of c.args.text.now) c.in-Ok-read_notes.notes.items c.in-Ok-read_notes.ensures,
)

pub returns-in-Ok : goal.returns-in-Ok
returns-in-Ok c zones =
    notes_fail c.args.file.now c.args.text.now c.in-Ok.bank zones c.in-Err-read_notes.fault
    (c.in-Ok._counts, c.in-Ok.ensures) c.in-Err-read_notes.ensures

pub returns : goal.returns
returns c zones =
    let outcome = keeping_notes zones (notes_read (notes_of c.args.text.now)) in
    bank_fails (λ both. both) c.in-Err.fault c.args.file.now outcome c.in-Err.ensures
