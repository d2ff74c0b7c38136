use Rattle.std.proofs.Common.{◌≡◌, ◌++◌, map, take, drop}
use Rattle.live_sessions.specs.PlayedNotes.{ended_by}
use Rattle.live_sessions.proofs.played.end_each.Given as goal

-- the notes so far are ended
abbrev pub invariant-loop-played : goal.invariant-loop-played
invariant-loop-played l =
    l.notes ≡ map (ended_by l.release l.frame) (take l.played-index l.fn.notes) ++ drop l.played-index l.fn.notes
