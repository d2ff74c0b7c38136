use Rattle.std.proofs.Common.{◌≡◌, ℕ, ◌+◌, ◌*◌, ◌%◌, ◌<◌, pos, get_or}
use Rattle.voices.specs.Runs.{interpolated_pair}
use Rattle.voices.proofs.slices.interpolate.Given as goal

abbrev pub invariant-loop-k : goal.invariant-loop-k
invariant-loop-k l = record {
  here : l.position ≡ l.x + l.k * l.phase_increment;
  done : (k : ℕ) → k < l.k → get_or l.run k (pos 0) ≡ interpolated_pair (get_or l.pairs k 0) ((l.x + k * l.phase_increment) % 65536);
}
