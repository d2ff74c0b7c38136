use Rattle.std.proofs.Common.{◌≡◌, filter, drop}
use Rattle.live_sessions.specs.Performances.{is_sustained_by, released_in_turn}
use Rattle.live_sessions.proofs.performance.Performance.release_sustained.Given as goal

-- the remaining notes lead to the same
abbrev pub invariant-loop-note : goal.invariant-loop-note
invariant-loop-note l =
    released_in_turn l.self (filter (is_sustained_by l.pedal) (drop l.note-index l.held))
    ≡ released_in_turn l.fn.self (filter (is_sustained_by l.pedal) l.held)
