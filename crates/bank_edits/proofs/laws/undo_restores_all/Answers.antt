use Rattle.bank_edits.proofs.RunLaw.{all_undone}
use Rattle.bank_edits.proofs.laws.undo_restores_all.Goals as goal

pub returns : goal.returns
returns c = all_undone
