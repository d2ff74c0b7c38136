use Rattle.std.proofs.Common.{drop}
use Rattle.std.specs.List.{flat_map}
use Rattle.base_outputs.proofs.OutputLaws.{Putting}
use Rattle.edit_script.proofs.PutLaws.{braced_text}
use Rattle.script_comments.proofs.lines.put_all_braced.Given as goal

-- the remaining steps are still to be written
abbrev pub invariant-loop-step : goal.invariant-loop-step
invariant-loop-step g l =
    Putting g.W.Write.contents l.initial.output l.output (flat_map braced_text l.steps)
    (flat_map braced_text (drop l.step-index l.steps))
