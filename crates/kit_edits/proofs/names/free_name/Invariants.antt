use Rattle.std.proofs.Common.{◌≡◌, drop}
use Rattle.std.specs.List.{find}
use Rattle.kit_edits.specs.Names.{has_name, is_free, candidates}
use Rattle.kit_edits.proofs.names.free_name.Given as goal

-- none of the candidates so far is free
abbrev pub invariant-loop-i : goal.invariant-loop-i
invariant-loop-i l =
    find (is_free (has_name l.used) l.is_stereo) (candidates l.most l.stem)
    ≡ find (is_free (has_name l.used) l.is_stereo) (drop l.i (candidates l.most l.stem))
