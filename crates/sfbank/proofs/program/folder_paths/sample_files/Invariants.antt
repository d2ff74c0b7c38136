use Rattle.std.proofs.Common.{◌≡◌, map, take}
use Rattle.sfbank.specs.FolderPlans.{sample_entry}
use Rattle.sfbank.specs.KitSteps.{entry_in}
use Rattle.sfbank.proofs.program.folder_paths.sample_files.Given as goal

-- the files so far
abbrev pub invariant-loop-sample : goal.invariant-loop-sample
invariant-loop-sample l = map entry_in l.files.items ≡ map (sample_entry l.folder) (take l.sample-index l.samples)
