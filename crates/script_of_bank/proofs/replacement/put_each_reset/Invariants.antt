use Rattle.std.proofs.Common.{drop}
use Rattle.std.specs.List.{flat_map}
use Rattle.base_outputs.proofs.OutputLaws.{Putting}
use Rattle.script_of_bank.proofs.RemovalLines.{reset_lines}
use Rattle.script_of_bank.proofs.replacement.put_each_reset.Given as goal

-- the lines of the remaining texts are still to be written
abbrev pub invariant-loop-id : goal.invariant-loop-id
invariant-loop-id g l =
    Putting g.W.Write.contents l.initial.output l.output (flat_map (reset_lines l.bank.texts) l.ids)
    (flat_map (reset_lines l.bank.texts) (drop l.id-index l.ids))
