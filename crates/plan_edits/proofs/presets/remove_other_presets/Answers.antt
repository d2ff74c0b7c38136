use Rattle.std.proofs.Common.{◌∙◌}
use Rattle.plan_edits.proofs.PresetLaws.{keeps_on}
use Rattle.plan_edits.proofs.presets.remove_other_presets.Goals as goal

pub loop-preset-preserved : goal.loop-preset-preserved
loop-preset-preserved c = record {
  first = c.remove_other_preset.ensures.first ∙ c.loop-preset.invariant.first;
  keeps =
      keeps_on c.args.kept.now.keys c.args.draft.now.bank c.loop-preset.draft.bank c.remove_other_preset.new.draft.bank
      c.loop-preset.invariant.keeps c.remove_other_preset.ensures.keeps;
}

pub returns-in_err-remove_other_preset-clause-keeps : goal.returns-in_err-remove_other_preset-clause-keeps
returns-in_err-remove_other_preset-clause-keeps c =
    keeps_on c.args.kept.now.keys c.args.draft.now.bank c.loop-preset.draft.bank c.remove_other_preset.new.draft.bank
    c.loop-preset.invariant.keeps c.remove_other_preset.ensures.keeps
