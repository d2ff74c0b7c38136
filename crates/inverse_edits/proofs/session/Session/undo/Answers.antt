use Rattle.edit_refusals.specs.declared.refusal.Refusal.TheVariants.{NothingToUndo}
use Rattle.inverse_edits.proofs.UndoRedoLaws.{step_keeps, step_back, undo_failure}
use Rattle.inverse_edits.proofs.session.Session.undo.Goals as goal

pub invariant_of-self : goal.invariant_of-self
invariant_of-self c =
    let k =
    step_keeps c.self.inside.bank c.apply_last.new.bank c.self.inside.undo.items c.apply_last.new.from.items
    c.self.inside.redo.items c.apply_last.new.to.items c.self.invariant.0 c.self.invariant.1 NothingToUndo
    c.apply_last.result c.apply_last.ensures c.self.invariant.2 in
    (k.sound, k.back, k.forth)

pub returns-clause-done : goal.returns-clause-done
returns-clause-done c =
    rw (← c.self.view_is)
    (step_back c.self.inside.bank c.apply_last.new.bank c.self.inside.undo.items c.apply_last.new.from.items
    c.self.inside.redo.items c.apply_last.new.to.items c.self.invariant.0 c.self.invariant.1 NothingToUndo
    c.apply_last.result c.apply_last.ensures)

pub returns-clause-failure : goal.returns-clause-failure
returns-clause-failure c =
    rw (← c.self.view_is)
    (undo_failure c.self.inside.bank c.apply_last.new.bank c.self.inside.undo.items c.apply_last.new.from.items
    c.self.inside.redo.items c.apply_last.new.to.items c.apply_last.result c.apply_last.ensures)
