use Rattle.std.proofs.Common.{◌≡◌, ℕ, ◌<◌}
use Rattle.bank_parts.specs.Owners.{zone_at}
use Rattle.bank_equality.proofs.zones.same_zones.Given as goal

abbrev pub invariant-loop-k : goal.invariant-loop-k
invariant-loop-k g l = (m : ℕ) → m < l.k → zone_at l.a l.i m ≡ zone_at l.b l.j m
