use Rattle.std.proofs.Common.{◌-◌, List, length, reverse, slice_get, ap, ◌∙◌}
use Rattle.edit_forms.specs.declared.edit.Edit.{Edit}
use Rattle.inverse_edits.proofs.HistoryLaws.{next_undo_is}
use Rattle.inverse_edits.proofs.session.Session.next_undo.Goals as goal

pub returns : goal.returns
returns c =
    rw (← c.self.view_is)
    (next_undo_is c.self.inside.bank c.self.inside.undo.items (reverse c.self.inside.redo.items)
    c.self.invariant.0 c.self.invariant.1 c.last.result
    (c.last.ensures.value ∙ ap (λ (xs : List Edit). slice_get xs (length xs - 1)) c.as_slice.ensures.value))
