use Rattle.std.proofs.Common.{◌≡◌, ◌≤◌, ◌-◌}
use Rattle.zone_select.specs.Remaining.{owner_held}
use Rattle.zone_select.proofs.zones.next_held.Given as goal

-- no zone before this one contains the note
abbrev pub invariant-loop-zone : goal.invariant-loop-zone
invariant-loop-zone l =
    record {
      left : owner_held l.bank l.note l.owner l.zone
          ≡ owner_held l.bank l.note l.owner l.from;
      after : l.from ≤ l.zone;
    }

abbrev pub decreases-loop-zone : goal.decreases-loop-zone
decreases-loop-zone l = l.count - l.zone
