-- The frame from which on later starts silence a voice.
use Rattle.std.specs.Prelude.{◌≡◌, ℕ, min, Bool, false, cond, nat_le, Option, Some, None, List, [], ◌∷◌}
use Rattle.mixer.specs.declared.playing.PlayingVoice.{PlayingVoice}
use Rattle.mixer.specs.StartFrames.{Start, silences, is_silenced}

abbrev pub least : ℕ → Option ℕ → ℕ
least n None = n
least n (Some m) = min n m

-- the first frame of a later start that silences q
unfoldable pub stop_of : List Start → PlayingVoice → Option ℕ
stop_of [] q = None
stop_of (s ∷ later) q = cond (silences s.voices q) (Some (least s.frame (stop_of later q))) (stop_of later q)

abbrev pub is_reached : Option ℕ → ℕ → Bool
is_reached None t = false
is_reached (Some n) t = nat_le n t

-- a voice is silenced from that frame on
abbrev pub StopsAreLeast : Type 0
StopsAreLeast = (later : List Start) (t : ℕ) (q : PlayingVoice) → is_silenced later t q ≡ is_reached (stop_of later q) t
