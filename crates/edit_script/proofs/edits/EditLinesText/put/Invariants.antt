use Rattle.std.proofs.Common.{drop}
use Rattle.base_outputs.proofs.OutputLaws.{Putting}
use Rattle.edit_script.specs.Printing.{texts_of}
use Rattle.edit_script.proofs.edits.EditLinesText.put.Given as goal

-- the lines so far were put
abbrev pub invariant-loop-edit : goal.invariant-loop-edit
invariant-loop-edit g l =
    Putting g.W.Write.contents l.fn.output l.output (texts_of l.edit-items) (texts_of (drop l.edit-index l.edit-items))
