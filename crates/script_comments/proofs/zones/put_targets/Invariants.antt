use Rattle.std.proofs.Common.{drop}
use Rattle.script_comments.specs.Zones.{target_items}
use Rattle.script_comments.proofs.ItemLaws.{Listing}
use Rattle.script_comments.proofs.zones.put_targets.Given as goal

-- the targets of the remaining zones are still to be put
abbrev pub invariant-loop-zone : goal.invariant-loop-zone
invariant-loop-zone g l =
    Listing g.W.Write.contents l.initial.output l.output l.fn.lead l.next (target_items l.bank l.level l.zones)
    (target_items l.bank l.level (drop l.zone-index l.zones))
