-- What holds of all voices that a player keeps.
use Rattle.std.specs.Prelude.{◌≡◌, ℕ, ◌<◌, ◌^◌, true, List, All}
use Rattle.mixer.specs.declared.playing.PlayingVoice.{PlayingVoice}
use Rattle.mixer.specs.Events.{is_sounding}

-- a voice of this age is over, whatever its parameters
abbrev pub lifetime : ℕ
lifetime = 2 ^ 33

-- each voice is younger than n frames
abbrev pub AllYounger : ℕ → List PlayingVoice → Type 0
AllYounger n ps = All (λ p. p.voice.age < n) ps

-- no voice is over at its next frame
abbrev pub AllSounding : List PlayingVoice → Type 0
AllSounding ps = All (λ p. is_sounding p ≡ true) ps
