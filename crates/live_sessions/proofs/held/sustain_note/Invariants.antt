use Rattle.std.proofs.Common.{◌≡◌, ◌++◌, map, take, drop}
use Rattle.live_sessions.specs.Steps.{sustained_as}
use Rattle.live_sessions.proofs.held.sustain_note.Given as goal

-- the notes so far are left to their pedals
abbrev pub invariant-loop-note : goal.invariant-loop-note
invariant-loop-note l =
    l.notes ≡ map (sustained_as l.handle) (take l.note-index l.fn.notes) ++ drop l.note-index l.fn.notes
