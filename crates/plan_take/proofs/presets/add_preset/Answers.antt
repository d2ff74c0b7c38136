use Rattle.plan_take.proofs.AdditionLaws.{addition_keeps}
use Rattle.plan_take.proofs.presets.add_preset.Goals as goal

pub returns-clause-others : goal.returns-clause-others
returns-clause-others c =
    addition_keeps c.args.draft.now.bank c.edit.new.self.bank c.args.draft.now.edits c.edit.new.self.edits
    c.step_number-at.result c.args.preset c.edit.result c.edit.ensures.done
