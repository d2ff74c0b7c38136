use Rattle.sfbank.proofs.SavedBanks.{saved_undo_restores}
use Rattle.sfbank.proofs.laws.saved_undo_restores.Goals as goal

pub returns : goal.returns
returns c = saved_undo_restores c.saved_undo_leads_back.ensures
