-- The frames of notes that start one after another.
use Rattle.std.specs.Prelude.{ℕ, ◌+◌, ◌-◌, ◌*◌, ◌/◌, ◌%◌, ℤ, pos, negsuc, ◌+ℤ◌, Bool, cond, not, nat_eq, nat_le}
use Rattle.std.specs.Prelude.{◌&&◌, None, List, [], ◌∷◌, map}
use Rattle.std.specs.List.{list_any, range_with_len}
use Rattle.std.specs.Int.{int_max, int_min}
use Rattle.std.specs.Ordering.{int_eq}
use Rattle.bank_parts.specs.declared.parts.Parts.{Parts}
use Rattle.script_notes.specs.Notes.{Numbers}
use Rattle.zone_select.specs.Select.{Voice, selected}
use Rattle.voices.specs.Sound.{snd}
use Rattle.mixer.specs.declared.playing.PlayingVoice.{PlayingVoice}
use Rattle.mixer.specs.Sums.{sum_over}

-- a note start: its frame, and the note's voices
pub record Start : Type 0 where
  pub frame : ℕ
  pub voices : List PlayingVoice

-- a voice of a note, at its first frame
unfoldable pub playing : Numbers → Voice → PlayingVoice
playing n v = record { voice = record { value = v; age = 0 }; bank = n.bank; number = n.number; handle = None }

-- the voices of a note in a bank
unfoldable pub note_voices : Parts → Numbers → List PlayingVoice
note_voices b n = map (playing n) (selected b n)

-- class 0 means none
abbrev pub has_class : PlayingVoice → Bool
has_class p = not (int_eq p.voice.value.parameters.class (pos 0))

-- p, starting, silences q: both have the same exclusive class, not 0, and the same bank and preset number
unfoldable pub excludes : PlayingVoice → PlayingVoice → Bool
excludes p q =
    has_class p && (int_eq p.voice.value.parameters.class q.voice.value.parameters.class
    && (nat_eq p.bank q.bank && nat_eq p.number q.number))

-- one of the starting voices silences q
unfoldable pub silences : List PlayingVoice → PlayingVoice → Bool
silences ps q = list_any (λ p. excludes p q) ps

-- one of the later starts has silenced q by frame t
unfoldable pub is_silenced : List Start → ℕ → PlayingVoice → Bool
is_silenced later t q = list_any (λ s. nat_le s.frame t && silences s.voices q) later

-- the left or the right side, at frame t, of a voice that plays from frame `from` on
unfoldable pub voice_at : List Start → ℕ → Bool → ℕ → PlayingVoice → ℤ
voice_at later from left t p = cond (is_silenced later t p) (pos 0) (snd p.voice.value left (p.voice.age + (t - from)))

-- the sum of all voices of a start
unfoldable pub start_at : List Start → Start → Bool → ℕ → ℤ
start_at later s left t = cond (nat_le s.frame t) (sum_over (voice_at later s.frame left t) s.voices) (pos 0)

-- the sum of all starts, each followed by those that come later
unfoldable pub sum_at : List Start → Bool → ℕ → ℤ
sum_at [] left t = pos 0
sum_at (s ∷ later) left t = start_at later s left t +ℤ sum_at later left t

-- a sum, clipped to 16 bits
abbrev pub clipped : ℤ → ℤ
clipped z = int_max (negsuc 32767) (int_min z (pos 32767))

-- left and right values are interleaved
abbrev pub is_left : ℕ → Bool
is_left i = nat_eq (i % 2) 0

-- value i of the frames from t on: the sum of all voices, clipped once
unfoldable pub side_at : List Start → ℕ → ℕ → ℤ
side_at ss t i = clipped (sum_at ss (is_left i) (t + i / 2))

-- m frames from frame t on, left and right interleaved
unfoldable pub frames : List Start → ℕ → ℕ → List ℤ
frames ss t m = map (side_at ss t) (range_with_len 0 (2 * m))
