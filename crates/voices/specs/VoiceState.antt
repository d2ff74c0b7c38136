-- The state that a voice keeps between calls.
use Rattle.std.specs.Prelude.{ℕ, ◌+◌, ◌-◌, ◌*◌, ◌≡◌, ◌<◌, ◌≤◌, ◌^◌, false, List, length}
use Rattle.sound_tables.specs.Tables.{gain_of}
use Rattle.sample_view.specs.Runs.{IsRunAround}
use Rattle.zone_select.specs.declared.parameters.VoiceParameters.{VoiceParameters}
use Rattle.voices.specs.declared.slices.Slice.{Slice}
use Rattle.voices.specs.declared.voice_state.VoiceState.{VoiceState}
use Rattle.voices.specs.Position.{position, is_over}
use Rattle.sound_envelopes.specs.Envelope.{held, envelope}
use Rattle.sound_envelopes.specs.Constant.{IsConstantUntil}

-- a slice of these points: each point in its range is in it
pub record IsCurrentSlice (points : List ℕ) (slice : Slice) : Type 0 where
  pub holds : (i : ℕ) → slice.first ≤ i → 2 * (i - slice.first) + 1 < length slice.bytes.now
      → IsRunAround points i slice.bytes.now (i - slice.first)

-- the voice state at frame t
pub record IsVoiceState (points : List ℕ) (v : VoiceParameters) (t : ℕ) (state : VoiceState) : Type 0 where
  pub over : state.over ≡ is_over v t
  pub young : state.over ≡ false → t + 1 < 2 ^ 33
  pub sounds : state.over ≡ false → t < v.length + v.release
  pub here : state.over ≡ false → state.position ≡ position v t
  pub level : IsConstantUntil (envelope v) t state.level
  pub at_end : state.at_end ≡ held v v.length
  pub most : state.at_end ≤ 65536
  pub loudness : state.loudness ≡ gain_of v.attenuation
  pub quiet : state.loudness ≤ 65536
  pub slice : IsCurrentSlice points state.slice
