use Rattle.std.proofs.Common.{◌≡◌, ◌%◌, length}
use Rattle.base_outputs.proofs.OutputLaws.{Putting}
use Rattle.sample_view.specs.Words.{words}
use Rattle.pair_waves.specs.Frames.{interleaved}
use Rattle.pair_waves.proofs.frames.put_run.Given as goal

-- the frames of the remaining bytes are still to be put
abbrev pub invariant-loop-left_rest : goal.invariant-loop-left_rest
invariant-loop-left_rest g l =
    (length l.right_rest ≡ length l.left_rest) × (length l.left_rest % 2 ≡ 0)
    × Putting g.W.Write.contents l.initial.output l.output (interleaved (words l.left) (words l.right))
    (interleaved (words l.left_rest) (words l.right_rest))

abbrev pub decreases-loop-left_rest : goal.decreases-loop-left_rest
decreases-loop-left_rest g l = length l.left_rest
