use Rattle.zone_select.specs.Remaining.{zones_in}
use Rattle.show_findings.specs.Zones.{unselectable_zone}
use Rattle.show_findings.proofs.GatherLaws.{Options}
use Rattle.show_findings.proofs.zones.push_of_owner.Given as goal

-- the options of the remaining zones are still to be added
abbrev pub invariant-loop-zone : goal.invariant-loop-zone
invariant-loop-zone l =
    Options (unselectable_zone l.bank l.owner) (zones_in l.bank l.owner) l.initial.found.items l.found.items l.zone
