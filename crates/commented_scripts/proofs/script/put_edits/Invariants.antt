use Rattle.std.proofs.Common.{drop}
use Rattle.base_outputs.proofs.OutputLaws.{Putting}
use Rattle.script_comments.specs.Comments.{comment_of}
use Rattle.script_comments.specs.Lines.{commented}
use Rattle.commented_scripts.proofs.script.put_edits.Given as goal

-- the lines of the remaining edits are still to be put
abbrev pub invariant-loop-edit : goal.invariant-loop-edit
invariant-loop-edit g l =
    Putting g.W.Write.contents l.initial.output l.output (commented (comment_of l.bank) l.edits)
    (commented (comment_of l.bank) (drop l.edit-index l.edits))
