use Rattle.std.proofs.Common.{sym, reverse, ◌∙◌}
use Rattle.std.proofs.lemmas.List.{reverse-reverse}
use Rattle.inverse_edits.proofs.HistoryLaws.{undo_list_is}
use Rattle.inverse_edits.proofs.session.Session.undo_list.Goals as goal

pub returns : goal.returns
returns c =
    rw (← c.self.view_is)
    (c.as_slice.ensures.value ∙ (sym (reverse-reverse c.self.inside.undo.items)
    ∙ sym (undo_list_is c.self.inside.bank (reverse c.self.inside.undo.items) (reverse c.self.inside.redo.items)
    c.self.invariant.0 c.self.invariant.1)))
