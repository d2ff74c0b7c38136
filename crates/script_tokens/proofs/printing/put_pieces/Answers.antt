use Rattle.script_tokens.proofs.PrintLaws.{pieces_on}
use Rattle.script_tokens.proofs.printing.put_pieces.Goals as goal

pub loop-piece-preserved : goal.loop-piece-preserved
loop-piece-preserved g c =
    pieces_on c.args.pieces.now _ c.loop-piece.piece-index c.loop-piece.invariant c.loop-piece-test.true
    c.piece-item.is c.put_spaced.ensures
