use Rattle.bank_changes.proofs.PresetLaws.{head_replaced}
use Rattle.bank_changes.proofs.presets.set_head.Goals as goal

pub returns-clause-change : goal.returns-clause-change
returns-clause-change c =
    rw c.replace_head.ensures.change
    (head_replaced c.args.parts.now c.args.preset c.args.name c.args.number c.args.bank c.head-old.result.now
    c.head-old.ensures)
