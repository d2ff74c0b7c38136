use Rattle.std.proofs.Common.{drop}
use Rattle.std.specs.List.{flat_map}
use Rattle.script_comments.proofs.ItemLaws.{Listing, listed_row}
use Rattle.script_comments.specs.Zones.{zone_has}
use Rattle.script_comments.proofs.zones.put_operators_in.Given as goal

-- the operators of the remaining rows are still to be put
abbrev pub invariant-loop-row : goal.invariant-loop-row
invariant-loop-row g l =
    Listing g.W.Write.contents l.initial.output l.output l.fn.lead l.next (flat_map (listed_row (λ op. zone_has op l.zone)) l.rows)
    (flat_map (listed_row (λ op. zone_has op l.zone)) (drop l.row-index l.rows))
