use Rattle.std.proofs.Common.{◌≡◌, take}
use Rattle.zone_select.specs.ZoneSettings.{with_amounts}
use Rattle.zone_select.proofs.zone_amounts.put_amounts.Given as goal

-- the amounts after the generators so far
abbrev pub invariant-loop-operator : goal.invariant-loop-operator
invariant-loop-operator l = l.amounts ≡ with_amounts l.fn.amounts (take l.operator-index l.gens)
