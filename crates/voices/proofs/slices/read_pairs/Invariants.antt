use Rattle.std.proofs.Common.{◌≡◌, ℕ, ◌+◌, ◌*◌, ◌/◌, ◌<◌, get_or}
use Rattle.sample_view.specs.Words.{words}
use Rattle.voices.specs.Runs.{pair_at}
use Rattle.voices.proofs.slices.read_pairs.Given as goal

abbrev pub invariant-loop-k : goal.invariant-loop-k
invariant-loop-k l = record {
  here : l.position ≡ l.x + l.k * l.phase_increment;
  done : (k : ℕ) → k < l.k → get_or l.pairs k 0 ≡ pair_at (words l.bytes) ((l.x + k * l.phase_increment) / 65536);
}
