-- The frames of a voice.
use Rattle.std.specs.Prelude.{ℕ, ◌+◌, ◌≡◌, ◌≤◌, ℤ, pos, ◌+ℤ◌, ◌-ℤ◌, Bool, true, cond}
use Rattle.sound_tables.specs.Tables.{gain_of}
use Rattle.sound_tables.specs.Floor.{clamped_at_zero}
use Rattle.zone_select.specs.declared.parameters.VoiceParameters.{VoiceParameters}
use Rattle.zone_select.specs.Select.{Voice}
use Rattle.sound_envelopes.specs.Gain.{scaled_by}
use Rattle.voices.specs.Panning.{side}
use Rattle.voices.specs.Position.{position, is_looping, is_over}
use Rattle.voices.specs.Points.{point_of}
use Rattle.sound_envelopes.specs.Envelope.{envelope}

-- a voice, and the number of its next frame
pub record Live : Type 0 where
  pub value : Voice
  pub age : ℕ

-- the share of a side, in 1000ths
abbrev pub part_of : VoiceParameters → Bool → ℕ
part_of v left = clamped_at_zero (cond left (pos 500 -ℤ v.pan) (pos 500 +ℤ v.pan))

-- frame t before panning, of a voice that isn't over
unfoldable pub unpanned_frame_at : Voice → ℕ → ℤ
unpanned_frame_at v t =
    scaled_by
    (scaled_by (point_of v.points v.parameters (is_looping v.parameters t) (position v.parameters t))
    (envelope v.parameters t))
    (gain_of v.parameters.attenuation)

-- the left or the right side of frame t
unfoldable pub snd : Voice → Bool → ℕ → ℤ
snd v left t = cond (is_over v.parameters t) (pos 0) (side (unpanned_frame_at v t) (part_of v.parameters left))

-- frame t before panning; silence where the voice is over
unfoldable pub frame_or_silence_at : Voice → ℕ → ℤ
frame_or_silence_at v t = cond (is_over v.parameters t) (pos 0) (unpanned_frame_at v t)

-- the voice after one more frame; a voice that is over doesn't advance
abbrev pub after_frame : Live → Live
after_frame live =
    cond (is_over live.value.parameters live.age) live (record { value = live.value; age = live.age + 1 })

-- a voice that is over stays over
abbrev pub OverStaysOver : Type 0
OverStaysOver = (v : VoiceParameters) (s t : ℕ) → s ≤ t → is_over v s ≡ true → is_over v t ≡ true
