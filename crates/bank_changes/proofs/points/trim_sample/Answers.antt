use Rattle.bank_changes.proofs.PointLaws.{stays}
use Rattle.bank_changes.proofs.points.trim_sample.Goals as goal

pub returns-clause-err : goal.returns-clause-err
returns-clause-err c =
    stays c.args.parts.now c.args.number c.trim.result c.member_mut-sample.result.now c.trim.new.sample
    c.member_mut-sample.ensures.value c.trim.ensures.err
