use Rattle.std.proofs.Common.{ℕ, take}
use Rattle.std.specs.List.{AllByRecursion}
use Rattle.kit_edits.specs.Fits.{FitsKitZone}
use Rattle.kit_tables.specs.declared.zone.KitZone.{KitZone}
use Rattle.sfbank.proofs.kit_fits.zones_fit.Given as goal

-- the zones so far fit
abbrev pub invariant-loop-zone : goal.invariant-loop-zone
invariant-loop-zone l = AllByRecursion (λ (zone : ℕ × KitZone). FitsKitZone zone.1) (take l.zone-index l.zones)
