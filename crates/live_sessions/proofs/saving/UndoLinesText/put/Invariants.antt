use Rattle.std.proofs.Common.{◌≤◌, length, take}
use Rattle.base_outputs.proofs.OutputLaws.{Putting}
use Rattle.live_sessions.specs.Saved.{undo_text}
use Rattle.live_sessions.proofs.saving.UndoLinesText.put.Given as goal

-- the edits so far were put
abbrev pub invariant-loop-remaining : goal.invariant-loop-remaining
invariant-loop-remaining g l = record {
  within : l.remaining ≤ length l.back;
  put : Putting g.W.Write.contents l.fn.output l.output (undo_text l.back) (undo_text (take l.remaining l.back));
}

abbrev pub decreases-loop-remaining : goal.decreases-loop-remaining
decreases-loop-remaining g l = l.remaining
