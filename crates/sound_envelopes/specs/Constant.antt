-- A gain, and how long it stays the same.
use Rattle.std.specs.Prelude.{ℕ, ◌≡◌, ◌<◌, ◌≤◌}
use Rattle.sound_envelopes.specs.declared.phases.EnvelopeGain.{EnvelopeGain}

-- a function of frames equals a gain from frame t on, up to the frame at which the gain expires
pub record IsConstantUntil (loudness : ℕ → ℕ) (t : ℕ) (level : EnvelopeGain) : Type 0 where
  pub even : (k : ℕ) → t ≤ k → k < level.until → loudness k ≡ level.gain_value
