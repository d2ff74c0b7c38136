use Rattle.std.proofs.Common.{reverse}
use Rattle.inverse_edits.proofs.HistoryLaws.{bank_now_is, is_history}
use Rattle.inverse_edits.proofs.session.Session.bank.Goals as goal

pub returns-clause-value : goal.returns-clause-value
returns-clause-value c =
    rw (← c.self.view_is)
    (bank_now_is c.self.inside.bank (reverse c.self.inside.undo.items) (reverse c.self.inside.redo.items))

pub returns-clause-history : goal.returns-clause-history
returns-clause-history c =
    rw (← c.self.view_is)
    (is_history c.self.inside.bank (reverse c.self.inside.undo.items) (reverse c.self.inside.redo.items)
    c.self.invariant.0 c.self.invariant.1 c.self.invariant.2)
