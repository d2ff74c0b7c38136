use Rattle.script_of_bank.proofs.ZoneLaws.{PuttingZones}
use Rattle.script_of_bank.proofs.zones.put_own_zones.Given as goal

-- the remaining zones are still to be written
abbrev pub invariant-loop-k : goal.invariant-loop-k
invariant-loop-k g l = PuttingZones l.owners l.i g.W.Write.contents l.initial.output l.output l.k
