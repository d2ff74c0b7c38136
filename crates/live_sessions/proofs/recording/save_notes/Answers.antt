use Rattle.std.proofs.Common.{ℕ, List, IfErr, map, subst}
use Rattle.file_host.specs.Saving.{SaveFails}
use Rattle.script_of_notes.specs.NoteTexts.{notes_text}
use Rattle.live_sessions.specs.declared.played.PlayedNote.{PlayedNote}
use Rattle.live_sessions.specs.FileSaves.{recording_text}
use Rattle.live_sessions.specs.PlayedNotes.{AreListed, listed}
use Rattle.live_sessions.proofs.ListedLaws.{recording_reads}
use Rattle.live_sessions.proofs.recording.save_notes.Goals as goal

pub returns-clause-failed : goal.returns-clause-failed
returns-clause-failed g c =
    let s = c.args.live.now.performance in
    let old = g.H.Host.world c.args.host.now in
    let new = g.H.Host.world c.save.new.self in
    subst (λ (path : List ℕ). IfErr c.save.result (SaveFails old new path (recording_text s))) c.text.ensures
    (subst
    (λ (ps : List PlayedNote).
    IfErr c.save.result (SaveFails old new c.text.result.now (notes_text (map (listed s.given) ps))))
    c.as_slice.ensures.same c.save.ensures.failed)

pub returns-clause-read : goal.returns-clause-read
returns-clause-read g c =
    let s = c.args.live.now.performance in
    recording_reads s.given s.played (subst AreListed c.as_slice.ensures.same c.as_slice.ensures.listed)
