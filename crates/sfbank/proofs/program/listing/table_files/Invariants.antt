use Rattle.std.proofs.Common.{◌≡◌, map, take}
use Rattle.std.specs.Path.{path_bytes}
use Rattle.kit_tables.specs.Files.{named_file}
use Rattle.sfbank.specs.KitPlans.{entry_at}
use Rattle.sfbank.specs.KitSteps.{entry_in}
use Rattle.sfbank.proofs.program.listing.table_files.Given as goal

-- the files so far
abbrev pub invariant-loop-file : goal.invariant-loop-file
invariant-loop-file l =
    map entry_in l.files.items ≡ map (entry_at (path_bytes l.folder)) (map named_file (take l.file-index l.listed))
