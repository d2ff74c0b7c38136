use Rattle.std.proofs.Common.{take}
use Rattle.std.specs.List.{AllByRecursion}
use Rattle.modulators.specs.Modulators.{FitsModulator}
use Rattle.bank_parts.proofs.level_contents.mods_fit.Given as goal

abbrev pub invariant-loop-modulator : goal.invariant-loop-modulator
invariant-loop-modulator l = AllByRecursion FitsModulator (take l.modulator-index l.mods)
