use Rattle.std.proofs.Common.{take}
use Rattle.std.specs.List.{AllByRecursion}
use Rattle.bank_parts.specs.Fits.{FitsZone}
use Rattle.bank_parts.proofs.fits.zones_fit.Given as goal

abbrev pub invariant-loop-zone : goal.invariant-loop-zone
invariant-loop-zone l = AllByRecursion FitsZone (take l.zone-index l.zones)
