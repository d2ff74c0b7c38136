use Rattle.std.proofs.Common.{◌*◌}
use Rattle.std.specs.List.{flat_map}
use Rattle.base_outputs.proofs.OutputLaws.{Putting}
use Rattle.show_sample.specs.Seams.{side_count, dot, seam}
use Rattle.show_sample.proofs.Ranges.{from}
use Rattle.show_sample.proofs.seams.put_seam.Given as goal

-- the remaining points are still to be written
abbrev pub invariant-loop-index : goal.invariant-loop-index
invariant-loop-index g l =
    Putting g.W.Write.contents l.initial.output l.output (seam l.points l.looped)
    (flat_map (dot l.points l.looped) (from l.index (2 * side_count l.looped)))
