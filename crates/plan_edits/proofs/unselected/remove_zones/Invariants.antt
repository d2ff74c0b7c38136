use Rattle.std.proofs.Common.{◌≡◌}
use Rattle.plan_edits.proofs.unselected.remove_zones.Given as goal

abbrev pub invariant-loop-zone : goal.invariant-loop-zone
invariant-loop-zone l = l.draft.first ≡ l.fn.draft.first
