use Rattle.std.proofs.Common.{drop}
use Rattle.base_outputs.proofs.OutputLaws.{Putting}
use Rattle.sample_view.specs.Pieces.{joined_bytes}
use Rattle.program_reports.proofs.fault_lines.put_pieces.Given as goal

-- the pieces so far were put
abbrev pub invariant-loop-piece : goal.invariant-loop-piece
invariant-loop-piece g l =
    Putting g.W.Write.contents l.initial.output l.output (joined_bytes l.pieces)
    (joined_bytes (drop l.piece-index l.pieces))
