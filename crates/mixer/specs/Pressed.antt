-- Notes that are pressed, and end when they are released.
use Rattle.std.specs.Prelude.{◌≡◌, ℕ, ◌+◌, ℤ, Bool, true, false, cond, nat_eq, Option, Some, None, List, [], ◌∷◌, ◌++◌}
use Rattle.std.specs.Prelude.{map, filter}
use Rattle.std.specs.Option.{option_map, option_map_or}
use Rattle.bank_parts.specs.declared.parts.Parts.{Parts}
use Rattle.script_notes.specs.Notes.{Numbers}
use Rattle.voices.specs.Release.{released}
use Rattle.mixer.specs.declared.playing.PlayingVoice.{PlayingVoice}
use Rattle.mixer.specs.declared.playing.Release.{Release}
use Rattle.mixer.specs.declared.playing.Release.TheVariants.{One, All}
use Rattle.mixer.specs.StartFrames.{note_voices}
use Rattle.mixer.specs.Events as events
use Rattle.mixer.specs.Events.{Event, heard, is_sounding, after_start, after_block, block}
use Rattle.mixer.specs.Stops.{least}

-- ---- what a player's calls do

abbrev pub with_handle : ℕ → PlayingVoice → PlayingVoice
with_handle h p = record p { handle = Some h }

-- the voices of a note that is pressed
unfoldable pub pressed_voices : Parts → ℕ → Numbers → List PlayingVoice
pressed_voices b h n = map (with_handle h) (note_voices b n)

-- the release ends the notes with this handle
abbrev pub ends : Release → ℕ → Bool
ends (One g) h = nat_eq g h
ends All h = true

-- a voice after a release
unfoldable pub released_by : Release → PlayingVoice → PlayingVoice
released_by r p = cond (option_map_or (ends r) p.handle false) (record p { voice = released p.voice }) p

-- the voices after a release
unfoldable pub after_release : List PlayingVoice → Release → List PlayingVoice
after_release ps r = filter is_sounding (map (released_by r) ps)

-- ---- the frames

-- an edit, with the bank after it, which may be any; a note start; a note that is pressed, and its handle; a release;
-- the end of all voices; a block of a number of frames
pub data KeyEvent : Type 0 where
  Edited : Parts → KeyEvent
  Started : Numbers → KeyEvent
  Pressed : ℕ → Numbers → KeyEvent
  Released : Release → KeyEvent
  Stopped : KeyEvent
  Given : ℕ → KeyEvent

-- how many frames come before a release of the handle, or the end of all voices, if there is one
unfoldable pub frames_until : ℕ → List KeyEvent → Option ℕ
frames_until h [] = None
frames_until h (Edited c ∷ es) = frames_until h es
frames_until h (Started n ∷ es) = frames_until h es
frames_until h (Pressed g n ∷ es) = frames_until h es
frames_until h (Released r ∷ es) = cond (ends r h) (Some 0) (frames_until h es)
frames_until h (Stopped ∷ es) = Some 0
frames_until h (Given m ∷ es) = option_map (λ k. m + k) (frames_until h es)

-- a pressed note, which ends when it is released, but not later than its own end
unfoldable pub held_note : ℕ → Numbers → List KeyEvent → Numbers
held_note h n es = record n { length = least n.length (frames_until h es) }

-- the events up to the first end of all voices, with a note start, of the right length, for each press
unfoldable pub as_notes : List KeyEvent → List Event
as_notes [] = []
as_notes (Edited c ∷ es) = events.Edited c ∷ as_notes es
as_notes (Started n ∷ es) = events.Started n ∷ as_notes es
as_notes (Pressed h n ∷ es) = events.Started (held_note h n es) ∷ as_notes es
as_notes (Released r ∷ es) = as_notes es
as_notes (Stopped ∷ es) = []
as_notes (Given m ∷ es) = events.Given m ∷ as_notes es

-- the frames after each end of all voices, on the bank at that time
unfoldable pub heard_later : Parts → List KeyEvent → List ℤ
heard_later b [] = []
heard_later b (Edited c ∷ es) = heard_later c es
heard_later b (Started n ∷ es) = heard_later b es
heard_later b (Pressed h n ∷ es) = heard_later b es
heard_later b (Released r ∷ es) = heard_later b es
heard_later b (Stopped ∷ es) = heard b (as_notes es) ++ heard_later b es
heard_later b (Given m ∷ es) = heard_later b es

-- All frames. Notes end when they are released, and are silent after an end of all voices.
abbrev pub heard_keys : Parts → List KeyEvent → List ℤ
heard_keys b es = heard b (as_notes es) ++ heard_later b es

-- all blocks of a player of these voices
unfoldable pub key_blocks : Parts → List PlayingVoice → List KeyEvent → List ℤ
key_blocks b ps [] = []
key_blocks b ps (Edited c ∷ es) = key_blocks c ps es
key_blocks b ps (Started n ∷ es) = key_blocks b (after_start ps (note_voices b n)) es
key_blocks b ps (Pressed h n ∷ es) = key_blocks b (after_start ps (pressed_voices b h n)) es
key_blocks b ps (Released r ∷ es) = key_blocks b (after_release ps r) es
key_blocks b ps (Stopped ∷ es) = key_blocks b [] es
key_blocks b ps (Given m ∷ es) = block ps m ++ key_blocks b (after_block ps m) es

-- ---- the law

-- pressed notes give the frames of notes that last until their release
abbrev pub PressesAreHeard : Type 0
PressesAreHeard = (b : Parts) (es : List KeyEvent) → key_blocks b [] es ≡ heard_keys b es
