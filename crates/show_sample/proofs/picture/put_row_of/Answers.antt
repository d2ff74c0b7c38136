use Rattle.std.proofs.Common.{sym, arith}
use Rattle.bank_changes.proofs.PointLaws.{among, there_valid}
use Rattle.show_sample.proofs.picture.put_row_of.Goals as goal

pub put_row-requires-clause-few : goal.put_row-requires-clause-few
put_row-requires-clause-few g c =
    let some = among c.args.bank.now.samples c.args.sample c.in-Some.found.now (sym c.in-Some.ensures) in
    let most = c.soundness.ensures.valid.limits.points in
    omega (arith, some, most)

pub put_row-requires-clause-looped : goal.put_row-requires-clause-looped
put_row-requires-clause-looped g c =
    let valid = there_valid c.args.bank.now c.args.sample c.in-Some.found.now (sym c.in-Some.ensures) c.soundness.ensures in
    valid.looped
