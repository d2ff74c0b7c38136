use Rattle.std.proofs.Common.{◌≡◌, ◌<◌, ℕ, true}
use Rattle.plan_edits.specs.ZoneSets.{has_zone}
use Rattle.plan_edits.proofs.unselected.has_zones_of.Given as goal

-- the set has the zones so far
abbrev pub invariant-loop-zone : goal.invariant-loop-zone
invariant-loop-zone l = (k : ℕ) → k < l.zone → has_zone l.fn.set l.fn.owner k ≡ true
