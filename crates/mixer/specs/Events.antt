-- The frames of a player, and what its calls do to its voices.
use Rattle.std.specs.Prelude.{◌≡◌, ℕ, ◌+◌, ◌*◌, ◌/◌, ℤ, Bool, not, List, [], ◌∷◌, ◌++◌, map, filter}
use Rattle.std.specs.List.{range_with_len}
use Rattle.bank_parts.specs.declared.parts.Parts.{Parts}
use Rattle.script_notes.specs.Notes.{Numbers}
use Rattle.voices.specs.Sound.{snd}
use Rattle.voices.specs.Position.{is_over}
use Rattle.mixer.specs.declared.playing.PlayingVoice.{PlayingVoice}
use Rattle.mixer.specs.Sums.{sum_over}
use Rattle.mixer.specs.StartFrames.{Start, note_voices, silences, frames, clipped, is_left}

-- ---- the frames

-- an edit, with the bank after it, which may be any; a successful note start; a block of a number of frames
pub data Event : Type 0 where
  Edited : Parts → Event
  Started : Numbers → Event
  Given : ℕ → Event

-- the starts, each with the bank at that time; b is the bank, and t the next frame
unfoldable pub starts : Parts → ℕ → List Event → List Start
starts b t [] = []
starts b t (Edited c ∷ es) = starts c t es
starts b t (Started n ∷ es) = record { frame = t; voices = note_voices b n } ∷ starts b t es
starts b t (Given m ∷ es) = starts b (t + m) es

-- how many frames the blocks have
unfoldable pub given : List Event → ℕ
given [] = 0
given (Edited c ∷ es) = given es
given (Started n ∷ es) = given es
given (Given m ∷ es) = m + given es

-- all frames of the blocks, from the note starts alone
unfoldable pub heard : Parts → List Event → List ℤ
heard b es = frames (starts b 0 es) 0 (given es)

-- ---- what a player's calls do

-- the voice isn't over at its next frame
unfoldable pub is_sounding : PlayingVoice → Bool
is_sounding p = not (is_over p.voice.value.parameters p.voice.age)

-- the voices that new ones don't silence
unfoldable pub unsilenced : List PlayingVoice → List PlayingVoice → List PlayingVoice
unsilenced new ps = filter (λ q. not (silences new q)) ps

-- the voices after a note's start
unfoldable pub after_start : List PlayingVoice → List PlayingVoice → List PlayingVoice
after_start ps new = unsilenced new ps ++ filter is_sounding new

-- a voice, m frames later
unfoldable pub aged : ℕ → PlayingVoice → PlayingVoice
aged m p = record p { voice = record { value = p.voice.value; age = p.voice.age + m } }

-- the voices after a block of m frames
unfoldable pub after_block : List PlayingVoice → ℕ → List PlayingVoice
after_block ps m = filter is_sounding (map (aged m) ps)

-- the sum of the voices for value i of the next frames
unfoldable pub total_at : List PlayingVoice → ℕ → ℤ
total_at ps i = sum_over (λ p. snd p.voice.value (is_left i) (p.voice.age + i / 2)) ps

-- value i of the next frames
unfoldable pub next_side : List PlayingVoice → ℕ → ℤ
next_side ps i = clipped (total_at ps i)

-- the next m frames, left and right interleaved
unfoldable pub block : List PlayingVoice → ℕ → List ℤ
block ps m = map (next_side ps) (range_with_len 0 (2 * m))

-- all blocks of a player of these voices
unfoldable pub blocks : Parts → List PlayingVoice → List Event → List ℤ
blocks b ps [] = []
blocks b ps (Edited c ∷ es) = blocks c ps es
blocks b ps (Started n ∷ es) = blocks b (after_start ps (note_voices b n)) es
blocks b ps (Given m ∷ es) = block ps m ++ blocks b (after_block ps m) es

-- ---- the laws

abbrev pub BlocksAreHeard : Type 0
BlocksAreHeard = (b : Parts) (es : List Event) → blocks b [] es ≡ heard b es

-- splitting a block in two doesn't change its frames
abbrev pub SplitsAreFree : Type 0
SplitsAreFree =
    (b : Parts) (es fs : List Event) (m n : ℕ)
    → heard b (es ++ Given (m + n) ∷ fs) ≡ heard b (es ++ Given m ∷ Given n ∷ fs)
