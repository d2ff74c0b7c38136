use Rattle.std.proofs.Common.{drop}
use Rattle.std.specs.List.{flat_map}
use Rattle.base_outputs.proofs.OutputLaws.{Putting}
use Rattle.show_zone_map.specs.Marks.{shown}
use Rattle.show_zone_map.proofs.marks.put_name.Given as goal

-- the remaining bytes are still to be written
abbrev pub invariant-loop-byte : goal.invariant-loop-byte
invariant-loop-byte g l =
    Putting g.W.Write.contents l.initial.output l.output (flat_map shown l.name)
    (flat_map shown (drop l.byte-index l.name))
