use Rattle.std.proofs.Common.{drop}
use Rattle.base_outputs.proofs.OutputLaws.{Putting}
use Rattle.edit_script.specs.Printing.{texts_of}
use Rattle.script_of_bank.specs.BankEdits.{in_turn}
use Rattle.script_of_bank.specs.BankScript.{selected_edits}
use Rattle.script_of_bank.proofs.samples.put_samples.Given as goal

-- the lines of the remaining samples are still to be written
abbrev pub invariant-loop-number : goal.invariant-loop-number
invariant-loop-number g l =
    Putting g.W.Write.contents l.initial.output l.output (texts_of (in_turn (selected_edits l.points) 0 l.samples))
    (texts_of (in_turn (selected_edits l.points) l.number (drop l.number l.samples)))
