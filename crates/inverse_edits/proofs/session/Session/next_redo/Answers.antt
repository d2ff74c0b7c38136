use Rattle.std.proofs.Common.{◌-◌, List, length, reverse, slice_get, ap, ◌∙◌}
use Rattle.edit_forms.specs.declared.edit.Edit.{Edit}
use Rattle.inverse_edits.proofs.HistoryLaws.{next_redo_is}
use Rattle.inverse_edits.proofs.session.Session.next_redo.Goals as goal

pub returns : goal.returns
returns c =
    rw (← c.self.view_is)
    (next_redo_is c.self.inside.bank (reverse c.self.inside.undo.items) c.self.inside.redo.items
    c.last.result
    (c.last.ensures.value ∙ ap (λ (xs : List Edit). slice_get xs (length xs - 1)) c.as_slice.ensures.value))
