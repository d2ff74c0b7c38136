-- The notes of what was played, as a note list.
use Rattle.std.specs.Prelude.{◌≡◌, ℕ, ◌+◌, List, [], ◌∷◌, ◌++◌}
use Rattle.bank_parts.specs.declared.parts.Parts.{Parts}
use Rattle.script_notes.specs.Notes.{Numbers}
use Rattle.mixer.specs.declared.playing.Release.TheVariants.{All}
use Rattle.mixer.specs.Alike.{LeaveAlike}
use Rattle.mixer.specs.Pressed.{KeyEvent, Edited, Started, Pressed, Released, Stopped, Given, held_note, as_notes, heard_keys}
use Rattle.mixer.specs.Render.{first_frames}

-- the notes of events from frame t on, each with the frame of its start, and with its length
unfoldable pub played : ℕ → List KeyEvent → List Numbers
played t [] = []
played t (Edited c ∷ es) = played t es
played t (Started n ∷ es) = record n { start = t } ∷ played t es
played t (Pressed h n ∷ es) = record (held_note h n es) { start = t } ∷ played t es
played t (Released r ∷ es) = played t es
played t (Stopped ∷ es) = played t es
played t (Given m ∷ es) = played (t + m) es

-- the notes of all events; those that are held at the end last until then
abbrev pub recorded : List KeyEvent → List Numbers
recorded es = played 0 (es ++ Released All ∷ [])

-- how many frames the blocks have
unfoldable pub key_frames : List KeyEvent → ℕ
key_frames [] = 0
key_frames (Edited c ∷ es) = key_frames es
key_frames (Started n ∷ es) = key_frames es
key_frames (Pressed h n ∷ es) = key_frames es
key_frames (Released r ∷ es) = key_frames es
key_frames (Stopped ∷ es) = key_frames es
key_frames (Given m ∷ es) = m + key_frames es

-- nothing ends all voices
abbrev pub HasNoStop : List KeyEvent → Type 0
HasNoStop [] = Unit {0}
HasNoStop (Edited c ∷ es) = HasNoStop es
HasNoStop (Started n ∷ es) = HasNoStop es
HasNoStop (Pressed h n ∷ es) = HasNoStop es
HasNoStop (Released r ∷ es) = HasNoStop es
HasNoStop (Stopped ∷ es) = ⊥
HasNoStop (Given m ∷ es) = HasNoStop es

-- the notes render as they were heard, where each edit keeps the voices of each note
abbrev pub RecordingsAreHeard : Type 0
RecordingsAreHeard =
    (b : Parts) (es : List KeyEvent) → HasNoStop es → LeaveAlike b (as_notes es)
    → heard_keys b es ≡ first_frames b (recorded es) (key_frames es)
