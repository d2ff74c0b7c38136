use Rattle.std.proofs.Common.{drop}
use Rattle.std.specs.List.{flat_map}
use Rattle.base_outputs.proofs.OutputLaws.{Putting}
use Rattle.script_tokens.specs.Printing.{spaced}
use Rattle.script_tokens.proofs.printing.put_pieces.Given as goal

-- the remaining pieces are still to be written
abbrev pub invariant-loop-piece : goal.invariant-loop-piece
invariant-loop-piece g l =
    Putting g.W.Write.contents l.initial.output l.output (flat_map spaced l.pieces)
    (flat_map spaced (drop l.piece-index l.pieces))
