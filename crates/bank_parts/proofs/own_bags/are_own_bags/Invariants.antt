use Rattle.std.proofs.Common.{◌≡◌, ◌==◌, ℕ, ◌<◌, Some}
use Rattle.std.specs.Prelude.{IsTrue}
use Rattle.flat_records.specs.Bags.{Bag}
use Rattle.flat_records.specs.Owned.{bag_at}
use Rattle.bank_parts.specs.OwnBags.{is_own_bag}
use Rattle.bank_parts.proofs.own_bags.are_own_bags.Given as goal

abbrev pub invariant-loop-k : goal.invariant-loop-k
invariant-loop-k l =
    (j : ℕ) (b : Bag) → j < l.k → bag_at l.bags.owners l.i j ≡ Some b → IsTrue (is_own_bag l.operator (j == 0) b)
