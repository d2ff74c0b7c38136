use Rattle.plan_edits.proofs.ZoneSetLaws.{adds}
use Rattle.plan_edits.proofs.zone_set.add_numbers.Goals as goal

pub returns : goal.returns
returns c =
    adds c.args.set.now c.insert.new.self c.args.owner c.args.zone c.insert.result c.insert.ensures.updates c.insert.ensures.err
