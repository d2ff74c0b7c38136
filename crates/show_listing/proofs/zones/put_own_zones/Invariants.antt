use Rattle.show_listing.proofs.ZoneLaws.{PuttingZones}
use Rattle.show_listing.proofs.zones.put_own_zones.Given as goal

-- the lines of the remaining zones are still to be written
abbrev pub invariant-loop-k : goal.invariant-loop-k
invariant-loop-k g l = PuttingZones g.H.ListedHead.word l.owners l.i g.W.Write.contents l.initial.output l.output l.k
