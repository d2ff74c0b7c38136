use Rattle.script_tokens.proofs.PrintLaws.{puts_line}
use Rattle.script_tokens.proofs.printing.put_line.Goals as goal

pub returns : goal.returns
returns g c = puts_line c.args.word.now c.args.pieces.now c.put.ensures c.put_pieces.ensures c.put-2.ensures
