use Rattle.std.proofs.Common.{◌≡◌, map, string_bytes, take}
use Rattle.bank_folders.specs.Laws.{files_from}
use Rattle.bank_folders.proofs.sample_files.sample_file_names.Given as goal

-- the names so far
abbrev pub invariant-loop-number : goal.invariant-loop-number
invariant-loop-number l = map string_bytes l.files.items ≡ files_from 0 (take l.number l.samples)
