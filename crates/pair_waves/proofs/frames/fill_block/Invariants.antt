use Rattle.std.proofs.Common.{◌≡◌, ◌*◌, ◌++◌, drop}
use Rattle.arrayvec.specs.ArrayVec.{array_vec_len}
use Rattle.sample_view.specs.Words.{words}
use Rattle.pair_waves.specs.Frames.{interleaved}
use Rattle.pair_waves.proofs.frames.fill_block.Given as goal

-- the frames so far, followed by all others
abbrev pub invariant-loop-frame : goal.invariant-loop-frame
invariant-loop-frame l =
    (array_vec_len l.block ≡ 4 * l.frame)
    × (l.block.items ++ interleaved (drop l.frame (words l.left)) (drop l.frame (words l.right))
    ≡ interleaved (words l.left) (words l.right))
