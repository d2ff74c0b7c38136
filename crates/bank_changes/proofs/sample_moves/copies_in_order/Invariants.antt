use Rattle.std.proofs.Common.{take}
use Rattle.bank_changes.specs.SampleMoves.{IsOrder}
use Rattle.bank_changes.proofs.sample_moves.copies_in_order.Given as goal

abbrev pub invariant-loop-index : goal.invariant-loop-index
invariant-loop-index l = IsOrder l.samples (take l.index-index l.order) l.copies.items
