use Rattle.edit_refusals.proofs.PointLaws.{tune_is_accepted}
use Rattle.edit_refusals.proofs.points.refuse_point_step.Goals as goal

pub returns-in-SetTune : goal.returns-in-SetTune
returns-in-SetTune c =
    rw c.in-SetTune.is (tune_is_accepted c.args.bank.now c.args.sample _ _ _ c.requires c.in_ok-no_such_sample.ensures)
