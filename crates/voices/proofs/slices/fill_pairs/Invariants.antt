use Rattle.std.proofs.Common.{◌≡◌, ℕ, ◌+◌, ◌-◌, ◌*◌, ◌%◌, ◌<◌, ◌≤◌, get_or, length}
use Rattle.voices.specs.VoiceState.{IsCurrentSlice}
use Rattle.voices.specs.Position.{is_looping, position}
use Rattle.voices.specs.Points.{point_of}
use Rattle.voices.specs.Runs.{interpolated_pair}
use Rattle.voices.proofs.slices.fill_pairs.Given as goal

abbrev pub invariant-loop-at : goal.invariant-loop-at
invariant-loop-at l = record {
  within : l.at ≤ length l.pairs;
  is_current : IsCurrentSlice l.points l.slice;
  here : l.x ≡ position l.v (l.t + l.at);
  part : l.x % 65536 ≡ (l.from + l.at * l.v.phase_increment) % 65536;
  done : (k : ℕ) → k < l.at
      → interpolated_pair (get_or l.pairs k 0) ((l.from + k * l.v.phase_increment) % 65536)
      ≡ point_of l.points l.v (is_looping l.v (l.t + k)) (position l.v (l.t + k));
}

abbrev pub decreases-loop-at : goal.decreases-loop-at
decreases-loop-at l = length l.initial.pairs - l.at
