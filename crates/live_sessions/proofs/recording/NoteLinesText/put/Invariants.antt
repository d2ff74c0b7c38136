use Rattle.std.proofs.Common.{drop, map}
use Rattle.std.specs.List.{flat_map}
use Rattle.base_outputs.proofs.OutputLaws.{Putting}
use Rattle.script_of_notes.specs.NoteTexts.{note_text, notes_text}
use Rattle.live_sessions.specs.PlayedNotes.{listed}
use Rattle.live_sessions.proofs.recording.NoteLinesText.put.Given as goal

-- the lines so far were put
abbrev pub invariant-loop-played : goal.invariant-loop-played
invariant-loop-played g l =
    Putting g.W.Write.contents l.fn.output l.output (notes_text (map (listed l.self.frame) l.played-items))
    (flat_map (λ p. note_text (listed l.self.frame p)) (drop l.played-index l.played-items))
