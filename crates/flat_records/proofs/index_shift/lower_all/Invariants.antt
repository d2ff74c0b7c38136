use Rattle.std.proofs.Common.{◌≡◌, ◌++◌, map, take, drop}
use Rattle.flat_records.proofs.index_shift.lower_all.Given as goal

abbrev pub invariant-loop-at : goal.invariant-loop-at
invariant-loop-at g l =
    l.list ≡ map (g.I.Index.lowered l.by) (take l.at-index l.initial.list) ++ drop l.at-index l.initial.list
