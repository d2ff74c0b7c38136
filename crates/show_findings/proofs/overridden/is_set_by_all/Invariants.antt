use Rattle.std.proofs.Common.{◌≡◌}
use Rattle.std.specs.Prelude.{is_some}
use Rattle.std.specs.List.{list_all}
use Rattle.bank_changes.specs.declared.members.Place.TheVariants as place
use Rattle.bank_changes.specs.Members.{amount_of}
use Rattle.zone_select.specs.Remaining.{zones_in}
use Rattle.show_findings.specs.Overridden.{is_set_by_all}
use Rattle.show_findings.proofs.GatherLaws.{from}
use Rattle.show_findings.proofs.overridden.is_set_by_all.Given as goal

-- the zones so far set the generator
abbrev pub invariant-loop-zone : goal.invariant-loop-zone
invariant-loop-zone l =
    is_set_by_all l.bank l.owner l.operator
    ≡ list_all (λ k. is_some (amount_of l.bank l.owner (place.Zone k) l.operator)) (from l.zone (zones_in l.bank l.owner))
