use Rattle.std.proofs.Common.{take}
use Rattle.generators.specs.Gens.{FitEntries}
use Rattle.bank_parts.proofs.level_contents.gens_fit.Given as goal

abbrev pub invariant-loop-entry : goal.invariant-loop-entry
invariant-loop-entry l = FitEntries (take l.entry-index l.gens)
