use Rattle.std.proofs.Common.{drop}
use Rattle.std.specs.List.{flat_map}
use Rattle.base_outputs.proofs.OutputLaws.{Putting}
use Rattle.show_zone_map.specs.Marks.{mark_text, marks_text}
use Rattle.show_zone_map.proofs.marks.put_marks.Given as goal

-- the remaining pieces are still to be written
abbrev pub invariant-loop-mark : goal.invariant-loop-mark
invariant-loop-mark g l =
    Putting g.W.Write.contents l.initial.output l.output (marks_text l.marks)
    (flat_map mark_text (drop l.mark-index l.marks))
