use Rattle.std.proofs.Common.{◌≡◌, ℕ, ◌+◌, ◌-◌, ◌<◌, ◌≤◌, pos, get_or, length}
use Rattle.voices.specs.VoiceState.{IsVoiceState}
use Rattle.voices.specs.Sound.{frame_or_silence_at}
use Rattle.voices.proofs.runs.fill_run.Given as goal

abbrev pub invariant-loop-at : goal.invariant-loop-at
invariant-loop-at l = record {
  within : l.at ≤ length l.fn.run;
  here : IsVoiceState l.points l.v (l.age + l.at) l.state;
  done : (k : ℕ) → k < l.at
      → get_or l.run k (pos 0) ≡ frame_or_silence_at (record { points = l.points; parameters = l.v }) (l.age + k);
}

abbrev pub decreases-loop-at : goal.decreases-loop-at
decreases-loop-at l = length l.fn.run - l.at
