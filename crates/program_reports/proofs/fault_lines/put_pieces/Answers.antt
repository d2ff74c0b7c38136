use Rattle.std.proofs.Common.{List, [], ℕ}
use Rattle.std.specs.Borrow.{Bor}
use Rattle.base_outputs.proofs.OutputLaws.{putting_member}
use Rattle.program_reports.proofs.fault_lines.put_pieces.Goals as goal

abbrev no_piece : Bor (List ℕ)
no_piece = record { ref_ptr = (0, 0); now = [] }

pub loop-piece-preserved : goal.loop-piece-preserved
loop-piece-preserved g c =
    putting_member (λ (piece : Bor (List ℕ)). piece.now) c.args.pieces.now c.loop-piece.piece-index no_piece
    c.loop-piece.invariant c.loop-piece-test.true c.put.ensures
