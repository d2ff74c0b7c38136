use Rattle.std.proofs.Common.{drop}
use Rattle.std.specs.List.{flat_map}
use Rattle.script_comments.specs.Comments.{operators}
use Rattle.script_comments.proofs.ItemLaws.{Listing}
use Rattle.script_comments.proofs.comment.put_all_operators.Given as goal

-- the operators of the remaining steps are still to be put
abbrev pub invariant-loop-step : goal.invariant-loop-step
invariant-loop-step g l =
    Listing g.W.Write.contents l.initial.output l.output l.fn.lead l.next (flat_map operators l.steps)
    (flat_map operators (drop l.step-index l.steps))
