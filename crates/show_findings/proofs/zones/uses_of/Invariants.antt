use Rattle.std.specs.List.{filter_map}
use Rattle.show_zone_map.specs.Rectangles.{zone_numbers}
use Rattle.show_findings.specs.PresetZones.{use_at}
use Rattle.show_findings.proofs.GatherLaws.{Lists}
use Rattle.show_findings.proofs.zones.uses_of.Given as goal

-- the zones of the remaining presets are still to be added
abbrev pub invariant-loop-owner : goal.invariant-loop-owner
invariant-loop-owner l =
    Lists (λ o. filter_map (use_at l.bank o) (zone_numbers l.bank o)) l.presets l.initial.found.items l.found.items
    l.owner-index
