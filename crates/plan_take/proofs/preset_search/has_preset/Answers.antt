use Rattle.std.proofs.Common.{◌∙◌}
use Rattle.plan_take.specs.Taking.{preset_with}
use Rattle.plan_take.proofs.SearchLaws.{some_if_found}
use Rattle.plan_take.proofs.preset_search.has_preset.Goals as goal

pub returns : goal.returns
returns c =
    c.is_some.ensures
    ∙ some_if_found c.args.presets.now (preset_with c.args.presets.now c.args.numbers) c.find_preset.result
    c.find_preset.ensures
