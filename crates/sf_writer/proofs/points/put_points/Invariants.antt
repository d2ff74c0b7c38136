use Rattle.std.proofs.Common.{drop}
use Rattle.sample_view.specs.Pieces.{joined_bytes}
use Rattle.base_outputs.proofs.OutputLaws.{Putting}
use Rattle.sf_writer.proofs.points.put_points.Given as goal

-- the remaining slices are still to be written
abbrev pub invariant-loop-piece : goal.invariant-loop-piece
invariant-loop-piece g l =
    Putting g.W.Write.contents l.initial.output l.output (joined_bytes l.pieces)
    (joined_bytes (drop l.piece-index l.pieces))
