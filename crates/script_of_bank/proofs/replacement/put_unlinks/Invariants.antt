use Rattle.std.proofs.Common.{◌-◌, length, take}
use Rattle.base_outputs.proofs.OutputLaws.{Putting}
use Rattle.edit_script.specs.Printing.{texts_of}
use Rattle.script_of_bank.specs.BankRemoval.{in_reverse, unlink_edits}
use Rattle.script_of_bank.proofs.replacement.put_unlinks.Given as goal

-- the lines of the preceding samples are still to be written
abbrev pub invariant-loop-done : goal.invariant-loop-done
invariant-loop-done g l =
    Putting g.W.Write.contents l.initial.output l.output (texts_of (in_reverse unlink_edits 0 l.samples))
    (texts_of (in_reverse unlink_edits 0 (take (length l.samples - l.done) l.samples)))
