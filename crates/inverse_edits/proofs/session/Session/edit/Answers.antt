use Rattle.std.proofs.Common.{reverse}
use Rattle.inverse_edits.proofs.UndoRedoLaws.{edit_keeps, edit_history, why_refused}
use Rattle.inverse_edits.proofs.session.Session.edit.Goals as goal

pub invariant_of-self : goal.invariant_of-self
invariant_of-self c =
    let k =
    edit_keeps c.self.inside.bank c.apply_edit.new.bank c.self.inside.undo.items c.apply_edit.new.undo.items
    c.args.edit c.in-Ok.ensures c.self.invariant.0 c.self.invariant.1 in
    rw c.new.ensures.items (k.sound, k.back, k.forth)

pub returns-in-Ok-clause-done : goal.returns-in-Ok-clause-done
returns-in-Ok-clause-done c =
    rw (c.new.ensures.items, ← c.self.view_is)
    (edit_history c.self.inside.bank c.apply_edit.new.bank c.self.inside.undo.items c.apply_edit.new.undo.items c.args.edit
    c.in-Ok.ensures c.self.invariant.0 (reverse c.self.inside.redo.items))

pub returns-in-Err-clause-refused : goal.returns-in-Err-clause-refused
returns-in-Err-clause-refused c =
    rw (← c.self.view_is)
    (why_refused c.self.inside.bank (reverse c.self.inside.undo.items) (reverse c.self.inside.redo.items) c.args.edit
    c.in-Err.refused.0 c.in-Err.ensures.named)
