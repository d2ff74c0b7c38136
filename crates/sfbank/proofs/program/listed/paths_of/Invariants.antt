use Rattle.std.proofs.Common.{◌≡◌, map, take}
use Rattle.sfbank.specs.KitPlans.{paths_of}
use Rattle.sfbank.specs.KitSteps.{are_paths, entry_of}
use Rattle.sfbank.proofs.program.listed.paths_of.Given as goal

-- the paths so far
abbrev pub invariant-loop-entry : goal.invariant-loop-entry
invariant-loop-entry l = are_paths l.paths.items ≡ paths_of (map entry_of (take l.entry-index l.entries))
