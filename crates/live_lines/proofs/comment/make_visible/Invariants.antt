use Rattle.std.proofs.Common.{◌≡◌, ◌++◌, map, take, drop}
use Rattle.live_lines.specs.Comments.{visible}
use Rattle.live_lines.proofs.comment.make_visible.Given as goal

-- the bytes so far are visible
abbrev pub invariant-loop-byte : goal.invariant-loop-byte
invariant-loop-byte l = l.bytes ≡ map visible (take l.byte-index l.fn.bytes) ++ drop l.byte-index l.fn.bytes
