use Rattle.std.proofs.Common.{take}
use Rattle.plan_edits.specs.Playing.{HaveLikeNotes}
use Rattle.plan_edits.proofs.distinct_notes.distinct.Given as goal

-- the notes so far
abbrev pub invariant-loop-note : goal.invariant-loop-note
invariant-loop-note l = HaveLikeNotes l.distinct.items (take l.note-index l.note-items)
