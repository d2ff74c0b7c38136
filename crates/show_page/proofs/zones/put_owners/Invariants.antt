use Rattle.std.proofs.Common.{drop}
use Rattle.std.specs.List.{flat_map}
use Rattle.base_outputs.proofs.OutputLaws.{Putting}
use Rattle.show_page.specs.Zones.{owner_text}
use Rattle.show_page.proofs.zones.put_owners.Given as goal

-- the lines of the remaining owners are still to be written
abbrev pub invariant-loop-number : goal.invariant-loop-number
invariant-loop-number g l =
    Putting g.W.Write.contents l.initial.output l.output (flat_map (owner_text g.H.ShownHead.text) l.owners)
    (flat_map (owner_text g.H.ShownHead.text) (drop l.number l.owners))
