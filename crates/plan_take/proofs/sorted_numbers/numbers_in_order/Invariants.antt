use Rattle.std.proofs.Common.{◌≡◌, map, take}
use Rattle.plan_take.specs.Sorted.{pair_of}
use Rattle.plan_take.proofs.sorted_numbers.numbers_in_order.Given as goal

abbrev pub invariant-loop-i : goal.invariant-loop-i
invariant-loop-i l = l.pairs.items ≡ map pair_of (take l.i l.fn.presets)
