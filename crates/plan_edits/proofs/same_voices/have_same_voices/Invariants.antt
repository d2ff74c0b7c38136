use Rattle.std.proofs.Common.{◌≡◌, ◌<◌, ℕ, Some, slice_get}
use Rattle.script_notes.specs.Notes.{Numbers}
use Rattle.plan_edits.specs.Playing.{HasSameVoices}
use Rattle.plan_edits.proofs.same_voices.have_same_voices.Given as goal

-- the notes so far have the same voices
abbrev pub invariant-loop-note : goal.invariant-loop-note
invariant-loop-note l =
    (i : ℕ) → i < l.note-index → (n : Numbers) → slice_get l.fn.notes i ≡ Some n → HasSameVoices l.fn.from l.fn.to n
