use Rattle.bank_parts.proofs.AppendLaws.{AreAppended}
use Rattle.bank_parts.proofs.bag_changes.append_zones.Given as goal

abbrev pub invariant-loop-zone : goal.invariant-loop-zone
invariant-loop-zone l = AreAppended l.fn.bags.owners l.bags l.i l.operator l.zone-index l.zones
