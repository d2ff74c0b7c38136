use Rattle.std.proofs.Common.{◌≡◌, ◌++◌, map, take}
use Rattle.bank_edits.specs.MoveEdits.{move_edit}
use Rattle.edit_drafts.proofs.sample_moves.push_moves.Given as goal

abbrev pub invariant-loop-change : goal.invariant-loop-change
invariant-loop-change l = l.edits.items ≡ l.fn.edits.items ++ map move_edit (take l.change-index l.moves)
