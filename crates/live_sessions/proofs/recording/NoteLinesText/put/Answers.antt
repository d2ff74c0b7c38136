use Rattle.std.proofs.Common.{map, ap, subst, ◌∙◌}
use Rattle.std.specs.List.{flat_map}
use Rattle.std.proofs.lemmas.List.Folds.{flat_map-map}
use Rattle.base_outputs.specs.Output.{Puts}
use Rattle.base_outputs.proofs.OutputLaws.{putting_from, putting_member}
use Rattle.script_notes.specs.Notes.{Numbers}
use Rattle.script_of_notes.specs.NoteTexts.{note_text, notes_text}
use Rattle.live_sessions.specs.PlayedNotes.{listed}
use Rattle.live_sessions.proofs.recording.NoteLinesText.put.Goals as goal

pub loop-played-init : goal.loop-played-init
loop-played-init g c =
    let ps = c.args.self.now.notes.now in
    let f = c.args.self.now.frame in
    putting_from (notes_text (map (listed f) ps)) (flat_map (λ p. note_text (listed f p)) ps)
    (flat_map-map note_text (listed f) ps)

pub loop-played-preserved : goal.loop-played-preserved
loop-played-preserved g c =
    let f = c.args.self.now.frame in
    let put =
    subst (λ (n : Numbers). Puts g.W.Write.contents c.loop-played.output c.put_note.new.output (note_text n))
    (c.listed.ensures ∙ ap (listed f) c.played-item.is) c.put_note.ensures in
    putting_member (λ p. note_text (listed f p)) c.args.self.now.notes.now c.loop-played.played-index c.played-item.result
    c.loop-played.invariant c.loop-played-test.true put
