use Rattle.std.proofs.Common.{◌≡◌, ℕ, ◌+◌, ◌-◌, ◌<◌, ◌≤◌, get_or, length}
use Rattle.sound_envelopes.specs.Constant.{IsConstantUntil}
use Rattle.sound_envelopes.specs.Envelope.{envelope}
use Rattle.sound_envelopes.proofs.runs.fill_gains.Given as goal

abbrev pub invariant-loop-at : goal.invariant-loop-at
invariant-loop-at l = record {
  within : l.at ≤ length l.levels;
  done : (k : ℕ) → k < l.at → get_or l.levels k 0 ≡ envelope l.v (l.t + k);
  is_current : IsConstantUntil (envelope l.v) (l.t + l.at) l.level;
}

abbrev pub decreases-loop-at : goal.decreases-loop-at
decreases-loop-at l = length l.initial.levels - l.at
