use Rattle.std.proofs.Common.{drop}
use Rattle.base_outputs.proofs.OutputLaws.{Putting}
use Rattle.script_tokens.proofs.PrintLaws.{all_digits}
use Rattle.script_tokens.proofs.printing.put_all_digits.Given as goal

-- the digits of the remaining slices are still to be written
abbrev pub invariant-loop-bytes : goal.invariant-loop-bytes
invariant-loop-bytes g l =
    Putting g.W.Write.contents l.initial.output l.output (all_digits l.slices)
    (all_digits (drop l.bytes-index l.slices))
