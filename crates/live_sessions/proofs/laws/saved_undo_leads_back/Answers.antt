use Rattle.live_sessions.proofs.UndoLists.{undo_lists_lead_back}
use Rattle.live_sessions.proofs.laws.saved_undo_leads_back.Goals as goal

pub returns : goal.returns
returns c = undo_lists_lead_back
