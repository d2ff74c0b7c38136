use Rattle.flat_records.proofs.Exchanges.{within_of}
use Rattle.flat_records.proofs.index_shift.lower_within.Goals as goal

pub returns : goal.returns
returns g c =
    rw c.lower_all.ensures (within_of c.args.list.now c.args.a c.args.b (g.I.Index.lowered c.args.by) c.requires.first)
