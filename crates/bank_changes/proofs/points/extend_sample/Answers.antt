use Rattle.bank_changes.proofs.PointLaws.{stays}
use Rattle.bank_changes.proofs.points.extend_sample.Goals as goal

pub returns-clause-err : goal.returns-clause-err
returns-clause-err c =
    stays c.args.parts.now c.args.number c.extend.result c.member_mut-sample.result.now c.extend.new.sample
    c.member_mut-sample.ensures.value c.extend.ensures.err
