use Rattle.std.specs.List.{filter_map}
use Rattle.bank_changes.specs.declared.members.Place.TheVariants as place
use Rattle.show_findings.specs.Overridden.{entries_of, overridden_generator}
use Rattle.show_findings.proofs.GatherLaws.{Lists}
use Rattle.show_findings.proofs.overridden.push_overridden_of_owners.Given as goal

-- the findings of the remaining owners are still to be added
abbrev pub invariant-loop-owner : goal.invariant-loop-owner
invariant-loop-owner l =
    Lists (λ o. filter_map (overridden_generator l.bank o) (entries_of l.bank o place.Global)) l.owners
    l.initial.found.items l.found.items l.owner-index
