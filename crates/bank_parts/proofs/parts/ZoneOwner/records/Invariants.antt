use Rattle.std.proofs.Common.{◌≡◌, take}
use Rattle.bank_parts.specs.Counts.{records_of, all_counted}
use Rattle.bank_parts.proofs.parts.ZoneOwner.records.Given as goal

abbrev pub invariant-loop-zone : goal.invariant-loop-zone
invariant-loop-zone g l = l.total ≡ all_counted (records_of l.self.global (take l.zone-index l.zone-items))
