use Rattle.std.proofs.Common.{◌<◌, ℕ}
use Rattle.bank_changes.specs.declared.members.Owner.TheVariants.{Preset}
use Rattle.plan_edits.specs.Playing.{HasZonesOf}
use Rattle.plan_edits.proofs.unselected.has_preset_zones.Given as goal

-- the set has the zones of the presets so far
abbrev pub invariant-loop-preset : goal.invariant-loop-preset
invariant-loop-preset l = (i : ℕ) → i < l.preset → HasZonesOf l.fn.bank l.fn.set (Preset i)
