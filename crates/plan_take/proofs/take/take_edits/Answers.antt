use Rattle.plan_take.proofs.FaultLaws.{takeable}
use Rattle.plan_take.proofs.take.take_edits.Goals as goal

pub found_edits-requires : goal.found_edits-requires
found_edits-requires c = takeable c.args.from.now c.args.bank.now c.args.presets.now c.in-Ok.ensures
