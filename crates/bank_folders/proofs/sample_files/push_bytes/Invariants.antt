use Rattle.std.proofs.Common.{◌≡◌, ◌++◌, map, take, string_bytes}
use Rattle.bank_folders.specs.SampleFiles.{file_byte}
use Rattle.bank_folders.proofs.sample_files.push_bytes.Given as goal

-- the bytes before the index are appended
abbrev pub invariant-loop-byte : goal.invariant-loop-byte
invariant-loop-byte l = string_bytes l.file ≡ string_bytes l.fn.file ++ map file_byte (take l.byte-index l.name)
