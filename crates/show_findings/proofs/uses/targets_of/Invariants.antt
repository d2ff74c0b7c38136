use Rattle.std.specs.List.{filter_map}
use Rattle.bank_changes.specs.Members.{target_of}
use Rattle.show_zone_map.specs.Rectangles.{zone_numbers}
use Rattle.show_findings.proofs.GatherLaws.{Lists}
use Rattle.show_findings.proofs.uses.targets_of.Given as goal

-- the targets of the remaining owners are still to be added
abbrev pub invariant-loop-owner : goal.invariant-loop-owner
invariant-loop-owner l =
    Lists (λ o. filter_map (target_of l.bank o) (zone_numbers l.bank o)) l.owners l.initial.found.items l.found.items
    l.owner-index
