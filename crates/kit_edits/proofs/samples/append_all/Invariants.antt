use Rattle.kit_edits.proofs.AppendingLaws.{Appending}
use Rattle.kit_edits.proofs.samples.append_all.Given as goal

-- what is appended so far, and what remains
abbrev pub invariant-loop-recording : goal.invariant-loop-recording
invariant-loop-recording l =
    Appending l.samples l.fn.recordings.items l.kit l.recording-iterator.rest.items l.remaining
