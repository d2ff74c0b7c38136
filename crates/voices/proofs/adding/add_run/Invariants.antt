use Rattle.std.proofs.Common.{◌≡◌, ℕ, ◌+◌, ◌-◌, ◌/◌, ◌%◌, ◌<◌, ◌≤◌, pos, get_or, length, nat_eq}
use Rattle.voices.specs.VoiceState.{IsVoiceState}
use Rattle.voices.specs.Sound.{snd}
use Rattle.voices.specs.Runs.{IsAdded}
use Rattle.voices.proofs.adding.add_run.Given as goal

abbrev pub invariant-loop-at : goal.invariant-loop-at
invariant-loop-at l = record {
  within : l.at ≤ length l.fn.sums;
  even : l.at % 2 ≡ 0;
  here : IsVoiceState l.points l.v (l.age + l.at / 2) l.state;
  done : (i : ℕ) → i < l.at
      → IsAdded (get_or l.fn.sums i (pos 0))
      (snd (record { points = l.points; parameters = l.v }) (nat_eq (i % 2) 0) (l.age + i / 2))
      (get_or l.sums i (pos 0));
  rest : (i : ℕ) → l.at ≤ i → get_or l.sums i (pos 0) ≡ get_or l.fn.sums i (pos 0);
  room : length l.run ≡ length l.fn.run;
}

abbrev pub decreases-loop-at : goal.decreases-loop-at
decreases-loop-at l = length l.fn.sums - l.at
