use Rattle.std.proofs.Common.{sym, arith}
use Rattle.bank_changes.proofs.PointLaws.{among}
use Rattle.sample_replacements.proofs.replacing.point_count.Goals as goal

pub overflow_cast-result : goal.overflow_cast-result
overflow_cast-result c =
    let few = among c.args.bank.now.samples c.args.number c.in-Some.sample.now (sym c.in-Some.ensures) in
    let within = c.soundness.ensures.valid.limits.points in
    let size = c.len.ensures.value in
    omega (arith, few, within, size)
