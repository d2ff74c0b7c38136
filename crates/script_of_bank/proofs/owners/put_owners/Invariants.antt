use Rattle.std.proofs.Common.{drop}
use Rattle.base_outputs.proofs.OutputLaws.{Putting}
use Rattle.script_of_bank.specs.Lines.{owner_lines}
use Rattle.script_of_bank.proofs.owners.put_owners.Given as goal

-- the lines of the remaining owners are still to be written
abbrev pub invariant-loop-number : goal.invariant-loop-number
invariant-loop-number g l =
    Putting g.W.Write.contents l.initial.output l.output
    (owner_lines g.H.AddedHead.word g.H.AddedHead.operands 0 l.owners)
    (owner_lines g.H.AddedHead.word g.H.AddedHead.operands l.number (drop l.number l.owners))
