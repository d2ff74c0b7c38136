use Rattle.std.proofs.Common.{ℕ, ◌<◌}
use Rattle.bank_parts.specs.OwnBags.{AreOwnBags}
use Rattle.bank_parts.proofs.own_bags.are_all_bags.Given as goal

abbrev pub invariant-loop-i : goal.invariant-loop-i
invariant-loop-i l = (j : ℕ) → j < l.i → AreOwnBags l.operator l.bags.owners j
