use Rattle.std.specs.List.{filter_map}
use Rattle.show_zone_map.specs.Rectangles.{zone_numbers}
use Rattle.show_findings.specs.Zones.{unselectable_zone}
use Rattle.show_findings.proofs.GatherLaws.{Lists}
use Rattle.show_findings.proofs.zones.push_of_owners.Given as goal

-- the zones of the remaining owners are still to be added
abbrev pub invariant-loop-owner : goal.invariant-loop-owner
invariant-loop-owner l =
    Lists (λ o. filter_map (unselectable_zone l.bank o) (zone_numbers l.bank o)) l.owners l.initial.found.items
    l.found.items l.owner-index
