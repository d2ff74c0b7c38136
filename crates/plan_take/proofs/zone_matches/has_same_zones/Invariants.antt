use Rattle.std.proofs.Common.{ℕ, ◌<◌}
use Rattle.bank_parts.specs.Owners.{zone_at}
use Rattle.plan_take.specs.Matches.{AreBoth, HasNumber, ZonesMatch}
use Rattle.plan_take.proofs.zone_matches.has_same_zones.Given as goal

-- the zones so far match
abbrev pub invariant-loop-k : goal.invariant-loop-k
invariant-loop-k g l =
    (m : ℕ) → m < l.k → AreBoth (ZonesMatch (HasNumber l.fn.targets)) (zone_at l.fn.from l.fn.i m) (zone_at l.fn.to l.fn.j m)
