use Rattle.plan_edits.proofs.PlayedLaws.{all_zones}
use Rattle.plan_edits.proofs.unselected.has_all_zones.Goals as goal

pub returns-then-has_preset_zones : goal.returns-then-has_preset_zones
returns-then-has_preset_zones c all =
    all_zones c.args.bank.now c.args.set.now (c.has_preset_zones.ensures c.if-has_preset_zones.true)
    (c.has_instrument_zones.ensures all)
