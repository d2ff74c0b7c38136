use Rattle.bank_changes.specs.Members.{target_of}
use Rattle.zone_select.specs.Remaining.{zones_in}
use Rattle.show_findings.proofs.GatherLaws.{Options}
use Rattle.show_findings.proofs.uses.push_targets.Given as goal

-- the options of the remaining numbers are still to be added
abbrev pub invariant-loop-zone : goal.invariant-loop-zone
invariant-loop-zone l =
    Options (target_of l.bank l.owner) (zones_in l.bank l.owner) l.initial.found.items l.found.items l.zone
