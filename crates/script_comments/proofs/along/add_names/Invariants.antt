use Rattle.std.proofs.Common.{ℕ, List, ◌++◌, map, take}
use Rattle.script_comments.specs.Along.{Holds, name_comment}
use Rattle.script_comments.proofs.along.add_names.Given as goal

abbrev pub invariant-loop-name : goal.invariant-loop-name
invariant-loop-name l =
    (cs : List (List ℕ)) → Holds l.fn.comments cs → Holds l.comments (cs ++ map name_comment (take l.name-index l.names))
