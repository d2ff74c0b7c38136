use Rattle.std.proofs.Common.{ℕ, ◌+◌, ◌<◌, get_or}
use Rattle.flat_records.proofs.indexes.are_rising.Given as goal

abbrev pub invariant-loop-k : goal.invariant-loop-k
invariant-loop-k g l =
    (j : ℕ) → j + 1 < l.k
    → g.I.Index.CanLower (get_or l.list j g.I.Index.origin) (get_or l.list (j + 1) g.I.Index.origin)
