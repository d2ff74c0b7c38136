use Rattle.flat_records.proofs.Exchanges.{turned}
use Rattle.flat_records.proofs.pieces.exchange.Goals as goal

pub returns : goal.returns
returns g c =
    rw c.rotate_left.ensures.after
    (turned c.args.list.now c.args.a c.args.b c.args.c c.requires.first c.requires.second)
