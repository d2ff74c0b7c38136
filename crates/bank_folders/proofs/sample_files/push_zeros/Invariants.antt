use Rattle.std.proofs.Common.{◌≡◌, ◌++◌, replicate, string_bytes}
use Rattle.bank_folders.proofs.sample_files.push_zeros.Given as goal

-- as many zeros as the loop has counted are appended
abbrev pub invariant-loop : goal.invariant-loop
invariant-loop l = string_bytes l.file ≡ string_bytes l.fn.file ++ replicate l.counter 48
