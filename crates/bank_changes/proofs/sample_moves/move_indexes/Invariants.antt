use Rattle.std.proofs.Common.{drop}
use Rattle.bank_changes.proofs.SampleMoveLaws.{IsNamed}
use Rattle.bank_changes.proofs.sample_moves.move_indexes.Given as goal

-- the indexes and the names after the moves so far
abbrev pub invariant-loop-change : goal.invariant-loop-change
invariant-loop-change l = IsNamed l.samples l.order l.names.items l.moves (drop l.change-index l.moves)
