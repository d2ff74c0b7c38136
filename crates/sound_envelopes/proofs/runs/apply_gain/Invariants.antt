use Rattle.std.proofs.Common.{◌≡◌, ℕ, ◌<◌, ◌≤◌, pos, get_or}
use Rattle.sound_envelopes.specs.Gain.{scaled_by}
use Rattle.sound_envelopes.proofs.runs.apply_gain.Given as goal

abbrev pub invariant-loop-i : goal.invariant-loop-i
invariant-loop-i l = record {
  done : (k : ℕ) → k < l.i → get_or l.run k (pos 0) ≡ scaled_by (get_or l.fn.run k (pos 0)) (get_or l.levels k 0);
  left : (k : ℕ) → l.i ≤ k → get_or l.run k (pos 0) ≡ get_or l.fn.run k (pos 0);
}
