use Rattle.std.proofs.Common.{◌≡◌, ◌++◌}
use Rattle.bank_folders.specs.Folders.{filled}
use Rattle.bank_folders.proofs.filling.fill.Given as goal

-- the lines so far, and the remaining lines with the remaining points
abbrev pub invariant-loop-line : goal.invariant-loop-line
invariant-loop-line l =
    l.full.items ++ filled l.line-iterator.rest.items l.remaining.items ≡ filled l.fn.lines.items l.fn.points.items
