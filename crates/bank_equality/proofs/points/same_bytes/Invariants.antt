use Rattle.std.proofs.Common.{◌≡◌, ◌+◌, ◌↔◌}
use Rattle.sample_view.specs.Pieces.{joined_bytes}
use Rattle.bank_equality.specs.Unread.{remaining_bytes, remaining_slices}
use Rattle.bank_equality.proofs.points.same_bytes.Given as goal

-- the unread bytes are equal exactly if all bytes are
abbrev pub invariant-loop-left : goal.invariant-loop-left
invariant-loop-left l = (joined_bytes l.fn.a ≡ joined_bytes l.fn.b) ↔ (remaining_bytes l.left ≡ remaining_bytes l.right)

abbrev pub decreases-loop-left : goal.decreases-loop-left
decreases-loop-left l = remaining_slices l.left + remaining_slices l.right
