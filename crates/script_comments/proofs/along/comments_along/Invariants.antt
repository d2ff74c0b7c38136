use Rattle.std.proofs.Common.{drop}
use Rattle.script_comments.proofs.MoveLaws.{Gathered}
use Rattle.script_comments.proofs.along.comments_along.Given as goal

-- the comments of the edits so far are kept, except those of the gathered moves
abbrev pub invariant-loop-edit : goal.invariant-loop-edit
invariant-loop-edit l =
    Gathered l.fn.bank l.bank l.edits (drop l.edit-index l.edits) l.comments l.moves.items
