use Rattle.std.proofs.Common.{◌≡◌, ◌+◌, ◌-◌, length, drop}
use Rattle.sample_view.specs.Pieces.{joined}
use Rattle.sample_view.proofs.cuts.cut_before_last.Given as goal

-- The count is the number of points in the later slices plus those that are still to skip.
abbrev pub invariant-loop-i : goal.invariant-loop-i
invariant-loop-i l = length (joined (drop (length l.pieces - l.i) l.pieces)) + l.skip ≡ l.count
