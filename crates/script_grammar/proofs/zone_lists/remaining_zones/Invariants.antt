use Rattle.std.proofs.Common.{◌≡◌, length}
use Rattle.script_grammar.specs.Zones.{remaining_zones}
use Rattle.script_grammar.proofs.zone_lists.remaining_zones.Given as goal

-- the zones so far and the remaining tokens give all zones
abbrev pub invariant-loop-alloc : goal.invariant-loop-alloc
invariant-loop-alloc l =
    (remaining_zones l.zones l.line.token_values ≡ remaining_zones l.fn.zones l.fn.line.token_values) × (l.line.pool ≡ l.fn.line.pool)

abbrev pub decreases-loop-alloc : goal.decreases-loop-alloc
decreases-loop-alloc l = length l.line.token_values
