use Rattle.std.proofs.Common.{◌≡◌, map, take}
use Rattle.sfbank.specs.KitSteps.{entry_in, entry_of}
use Rattle.sfbank.proofs.program.listing.file_entries.Given as goal

-- the recordings so far
abbrev pub invariant-loop-file : goal.invariant-loop-file
invariant-loop-file l = map entry_of l.entries.items ≡ map entry_in (take l.file-index l.files)
