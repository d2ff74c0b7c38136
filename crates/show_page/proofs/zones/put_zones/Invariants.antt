use Rattle.show_page.proofs.ZoneLaws.{PuttingZones}
use Rattle.show_page.proofs.zones.put_zones.Given as goal

-- the remaining zones are still to be written
abbrev pub invariant-loop-k : goal.invariant-loop-k
invariant-loop-k g l = PuttingZones l.owners l.i g.W.Write.contents l.initial.output l.output l.k
