use Rattle.std.proofs.Common.{◌≡◌, length}
use Rattle.bank_changes.specs.SampleMoves.{AreMoves}
use Rattle.edit_drafts.proofs.draft.Draft.edit_all.Given as goal

-- the moves that are to be applied are of samples of the bank
abbrev pub invariant-loop-step : goal.invariant-loop-step
invariant-loop-step l = (l.self.first ≡ l.fn.self.first) × AreMoves (length l.self.bank.samples) l.moves.items
