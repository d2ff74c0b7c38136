use Rattle.std.proofs.Common.{sym, ap, ◌∙◌}
use Rattle.bank_changes.specs.Members.{head_of}
use Rattle.plan_edits.proofs.PresetLaws.{removal_keeps}
use Rattle.plan_edits.proofs.presets.remove_other_preset.Goals as goal

pub returns-in-Some-clause-keeps : goal.returns-in-Some-clause-keeps
returns-in-Some-clause-keeps c =
    removal_keeps c.args.kept.now.keys c.args.draft.now.bank c.edit.new.self.bank c.args.draft.now.edits c.edit.new.self.edits
    c.args.preset c.in-Some.head c.edit.result
    (sym (ap (λ b. head_of b c.args.preset) c.bank.ensures) ∙ sym c.head.ensures ∙ c.in-Some.is)
    (sym c.if-not-is_listed.ensures)
    c.edit.ensures.done
