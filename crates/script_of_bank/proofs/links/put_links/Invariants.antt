use Rattle.std.proofs.Common.{drop}
use Rattle.base_outputs.proofs.OutputLaws.{Putting}
use Rattle.edit_script.specs.Printing.{texts_of}
use Rattle.script_of_bank.specs.BankEdits.{in_turn, link_edits}
use Rattle.script_of_bank.proofs.links.put_links.Given as goal

-- the lines of the remaining samples are still to be written
abbrev pub invariant-loop-number : goal.invariant-loop-number
invariant-loop-number g l =
    Putting g.W.Write.contents l.initial.output l.output (texts_of (in_turn link_edits 0 l.samples))
    (texts_of (in_turn link_edits l.number (drop l.number l.samples)))
