-- Voices whose note ends earlier or later.
use Rattle.std.specs.Prelude.{ℕ, ◌≡◌, ◌<◌, min, Bool, true}
use Rattle.zone_select.specs.declared.parameters.VoiceParameters.{VoiceParameters}
use Rattle.zone_select.specs.Select.{Voice}
use Rattle.voices.specs.Position.{is_over}
use Rattle.voices.specs.Sound.{Live, snd}

-- the parameters for a note of n frames
abbrev pub lasting : ℕ → VoiceParameters → VoiceParameters
lasting n v = record v { length = n }

abbrev pub voice_lasting : ℕ → Voice → Voice
voice_lasting n v = record { points = v.points; parameters = lasting n v.parameters }

-- the note ends at the next frame, unless it has ended before
unfoldable pub released : Live → Live
released live = record {
  value = voice_lasting (min live.value.parameters.length live.age) live.value;
  age = live.age;
}

-- frame t is the same for notes of m and of n frames
pub record IsSameFrame (v : Voice) (m n t : ℕ) : Type 0 where
  pub over : is_over (lasting m v.parameters) t ≡ is_over (lasting n v.parameters) t
  pub sound : (left : Bool) → snd (voice_lasting m v) left t ≡ snd (voice_lasting n v) left t

-- a frame before the end of a note doesn't depend on when it ends
abbrev pub EndsAreFree : Type 0
EndsAreFree = (v : Voice) (m n t : ℕ) → t < m → t < n → IsSameFrame v m n t

-- a release doesn't bring back a voice that is over
abbrev pub OverWhenReleased : Type 0
OverWhenReleased = (v : VoiceParameters) (t : ℕ) → is_over v t ≡ true → is_over (lasting (min v.length t) v) t ≡ true
