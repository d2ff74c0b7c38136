use Rattle.std.proofs.Common.{◌-◌}
use Rattle.base_outputs.proofs.OutputLaws.{Putting}
use Rattle.script_of_bank.specs.BankRemoval.{removal_lines}
use Rattle.script_of_bank.proofs.replacement.put_removals.Given as goal

-- the lines of the preceding members are still to be written
abbrev pub invariant-loop-done : goal.invariant-loop-done
invariant-loop-done g l =
    Putting g.W.Write.contents l.initial.output l.output (removal_lines l.word l.count)
    (removal_lines l.word (l.count - l.done))
