use Rattle.std.proofs.Common.{◌<◌, ℕ}
use Rattle.bank_changes.specs.declared.members.Owner.TheVariants.{Inst}
use Rattle.plan_edits.specs.Playing.{HasZonesOf}
use Rattle.plan_edits.proofs.unselected.has_instrument_zones.Given as goal

-- the set has the zones of the instruments so far
abbrev pub invariant-loop-instrument : goal.invariant-loop-instrument
invariant-loop-instrument l = (i : ℕ) → i < l.instrument → HasZonesOf l.fn.bank l.fn.set (Inst i)
