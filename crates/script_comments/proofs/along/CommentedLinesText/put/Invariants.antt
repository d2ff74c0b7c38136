use Rattle.std.proofs.Common.{drop}
use Rattle.base_outputs.proofs.OutputLaws.{Putting}
use Rattle.script_comments.specs.Along.{pieces}
use Rattle.script_comments.specs.Lines.{commented_in_turn}
use Rattle.script_comments.proofs.along.CommentedLinesText.put.Given as goal

-- the remaining lines are still to be written, with the remaining comments
abbrev pub invariant-loop-edit : goal.invariant-loop-edit
invariant-loop-edit g l =
    Putting g.W.Write.contents l.fn.output l.output
    (commented_in_turn l.edit-items (pieces l.initial.lengths l.initial.bytes))
    (commented_in_turn (drop l.edit-index l.edit-items) (pieces l.lengths l.bytes))
