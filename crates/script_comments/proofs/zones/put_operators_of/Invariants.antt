use Rattle.std.proofs.Common.{drop}
use Rattle.std.specs.List.{flat_map}
use Rattle.script_comments.proofs.ItemLaws.{Listing, listed_row}
use Rattle.script_comments.specs.Zones.{zones_have}
use Rattle.script_comments.proofs.zones.put_operators_of.Given as goal

-- the operators of the remaining rows are still to be put
abbrev pub invariant-loop-row : goal.invariant-loop-row
invariant-loop-row g l =
    Listing g.W.Write.contents l.initial.output l.output l.fn.lead l.next (flat_map (listed_row (zones_have l.global l.zones)) l.rows)
    (flat_map (listed_row (zones_have l.global l.zones)) (drop l.row-index l.rows))
