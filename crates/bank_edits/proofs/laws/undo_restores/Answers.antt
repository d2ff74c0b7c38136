use Rattle.bank_edits.proofs.Law.{undone}
use Rattle.bank_edits.proofs.laws.undo_restores.Goals as goal

pub returns : goal.returns
returns c = undone
