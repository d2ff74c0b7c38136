use Rattle.std.proofs.Common.{ℕ, ◌+◌, ◌<◌}
use Rattle.generators.specs.Gens.{rank}
use Rattle.generators.specs.Indexes.{operator_at}
use Rattle.generators.proofs.gen_map.ranks_rise.Given as goal

abbrev pub invariant-loop-k : goal.invariant-loop-k
invariant-loop-k l = (j : ℕ) → j + 1 < l.k → rank (operator_at l.entries j) < rank (operator_at l.entries (j + 1))
