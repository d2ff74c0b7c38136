use Rattle.std.proofs.Common.{◌≡◌, ℕ, ◌+◌, ◌-◌, ◌*◌, ◌/◌, ◌<◌, ◌≤◌, get_or, length}
use Rattle.sample_view.specs.Words.{words}
use Rattle.voices.specs.Runs.{pair_at}
use Rattle.voices.proofs.slices.read_fours.Given as goal

abbrev pub invariant-loop-pairs : goal.invariant-loop-pairs
invariant-loop-pairs l = record {
  within : l.k ≤ length l.pairs;
  here : l.position ≡ l.x + l.k * l.phase_increment;
  room : 4 ≤ length l.pairs - l.k → l.position + 4 * l.phase_increment < 4294967296;
  first : 4 ≤ length l.pairs - l.k → 2 * (l.position / 65536) + 3 < length l.bytes;
  second : 4 ≤ length l.pairs - l.k → 2 * ((l.position + l.phase_increment) / 65536) + 3 < length l.bytes;
  third : 4 ≤ length l.pairs - l.k → 2 * ((l.position + 2 * l.phase_increment) / 65536) + 3 < length l.bytes;
  fourth : 4 ≤ length l.pairs - l.k → 2 * ((l.position + 3 * l.phase_increment) / 65536) + 3 < length l.bytes;
  done : (k : ℕ) → k < l.k → get_or l.pairs k 0 ≡ pair_at (words l.bytes) ((l.x + k * l.phase_increment) / 65536);
}

abbrev pub decreases-loop-pairs : goal.decreases-loop-pairs
decreases-loop-pairs l = length l.initial.pairs - l.k
