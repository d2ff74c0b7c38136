use Rattle.std.proofs.Common.{map, take}
use Rattle.sfbank.specs.Kits.{FitSources, source_of}
use Rattle.sfbank.proofs.kit_fits.waves_fit.Given as goal

-- the recordings so far fit
abbrev pub invariant-loop-wave : goal.invariant-loop-wave
invariant-loop-wave l = FitSources (map source_of (take l.wave-index l.waves))
