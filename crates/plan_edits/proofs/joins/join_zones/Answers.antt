use Rattle.plan_edits.proofs.AlikeSteps.{adds_both}
use Rattle.plan_edits.proofs.joins.join_zones.Goals as goal

pub returns : goal.returns
returns c = adds_both c.args.draft.now c.join_presets.new.draft c.join_instruments.new.draft c.join_presets.ensures c.join_instruments.ensures
