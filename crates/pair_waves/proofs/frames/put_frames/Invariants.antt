use Rattle.std.proofs.Common.{◌≤◌, ◌-◌, length, drop}
use Rattle.base_outputs.proofs.OutputLaws.{Putting}
use Rattle.pair_waves.specs.Frames.{interleaved}
use Rattle.pair_waves.proofs.frames.put_frames.Given as goal

-- the frames from the index on are still to be put
abbrev pub invariant-loop-index : goal.invariant-loop-index
invariant-loop-index g l =
    (l.index ≤ length l.left)
    × Putting g.W.Write.contents l.initial.output l.output (interleaved l.left l.right)
    (interleaved (drop l.index l.left) (drop l.index l.right))

abbrev pub decreases-loop-index : goal.decreases-loop-index
decreases-loop-index g l = l.count - l.index
