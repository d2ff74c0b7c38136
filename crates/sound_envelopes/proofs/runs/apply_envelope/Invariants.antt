use Rattle.std.proofs.Common.{◌≡◌, ℕ, ◌+◌, ◌-◌, ◌<◌, ◌≤◌, pos, get_or, length}
use Rattle.sound_tables.specs.Tables.{gain_of}
use Rattle.sound_envelopes.specs.Constant.{IsConstantUntil}
use Rattle.sound_envelopes.specs.Envelope.{envelope}
use Rattle.sound_envelopes.specs.Gain.{scaled_by}
use Rattle.sound_envelopes.proofs.runs.apply_envelope.Given as goal

abbrev pub invariant-loop-at : goal.invariant-loop-at
invariant-loop-at l = record {
  within : l.at ≤ length l.run;
  done : (k : ℕ) → k < l.at
      → get_or l.run k (pos 0)
      ≡ scaled_by (scaled_by (get_or l.fn.run k (pos 0)) (envelope l.v (l.t + k))) (gain_of l.v.attenuation);
  rest : (k : ℕ) → l.at ≤ k → get_or l.run k (pos 0) ≡ get_or l.fn.run k (pos 0);
  is_current : IsConstantUntil (envelope l.v) (l.t + l.at) l.level;
}

abbrev pub decreases-loop-at : goal.decreases-loop-at
decreases-loop-at l = length l.initial.run - l.at
