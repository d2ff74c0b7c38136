use Rattle.std.proofs.Common.{◌≡◌, ◌+◌, ◌++◌, length}
use Rattle.edit_script.specs.Printing.{numbered}
use Rattle.sfbank.proofs.recorded.numbered_lines.Given as goal

-- the lines so far, followed by those of the remaining edits, are all lines
abbrev pub invariant-loop-edit : goal.invariant-loop-edit
invariant-loop-edit l =
    (l.lines.items ++ numbered (l.number + 1) l.edit-iterator.rest.items ≡ numbered 1 l.fn.edits.items)
    × (l.number + length l.edit-iterator.rest.items ≡ length l.fn.edits.items)
