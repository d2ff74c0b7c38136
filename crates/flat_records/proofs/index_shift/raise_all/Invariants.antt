use Rattle.std.proofs.Common.{◌≡◌, ◌++◌, map, take, drop}
use Rattle.flat_records.proofs.index_shift.raise_all.Given as goal

abbrev pub invariant-loop-at : goal.invariant-loop-at
invariant-loop-at g l =
    l.list ≡ map (g.I.Index.raised l.by) (take l.at-index l.initial.list) ++ drop l.at-index l.initial.list
