use Rattle.std.proofs.Common.{◌≡◌, take}
use Rattle.bank_folders.specs.Folders.{bare_samples}
use Rattle.bank_folders.proofs.bare.bare_samples.Given as goal

-- the samples of the lines before the index
abbrev pub invariant-loop-line : goal.invariant-loop-line
invariant-loop-line l = l.bare.items ≡ bare_samples (take l.line-index l.lines)
