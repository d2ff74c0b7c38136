use Rattle.std.proofs.Common.{◌≡◌, ◌++◌, map, take, drop}
use Rattle.base_numbered_lists.proofs.renumbering.renumber_all.Given as goal

abbrev pub invariant-loop-member : goal.invariant-loop-member
invariant-loop-member g l =
    l.members
    ≡ map (g.T.Renumber.with_new_numbers l.by) (take l.member-index l.initial.members)
    ++ drop l.member-index l.initial.members
