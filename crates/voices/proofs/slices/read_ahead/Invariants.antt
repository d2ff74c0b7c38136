use Rattle.std.proofs.Common.{length, ◌+◌, ◌-◌, ◌<◌}
use Rattle.voices.proofs.slices.read_ahead.Given as goal

abbrev pub invariant-loop-k : goal.invariant-loop-k
invariant-loop-k l = l.k < length l.fn.pairs + 16

abbrev pub decreases-loop-k : goal.decreases-loop-k
decreases-loop-k l = length l.initial.pairs - l.k
