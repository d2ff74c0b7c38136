-- What a start does.
use Rattle.std.specs.Prelude.{◌≡◌, ◌%◌, ◌/◌, length, ℕ, ℤ, pos, List, [], ◌∷◌, Option, Some, None}
use Rattle.bank_parts.specs.declared.parts.Parts.{Parts}
use Rattle.script_notes.specs.Notes.{Numbers}
use Rattle.mixer.specs.declared.playing.PlayingVoice.{PlayingVoice}
use Rattle.mixer.specs.Events.{after_start, after_block, block}
use Rattle.mixer.specs.Pressed.{pressed_voices}
use Rattle.mixer.specs.StartFrames.{note_voices}
use Rattle.c_loans.specs.declared.pair.Call.{Call}

-- the voices of a note on a bank; one with an id is pressed
abbrev pub voices_by : Option ℕ → Numbers → Parts → List PlayingVoice
voices_by None n b = note_voices b n
voices_by (Some id) n b = pressed_voices b id n

abbrev pub new_voices : Option ℕ → Option Numbers → Parts → List PlayingVoice
new_voices id None b = []
new_voices id (Some n) b = voices_by id n b

-- the voices of the call's note, with status 0; or nothing
abbrev pub IsStarted : Parts → List PlayingVoice → Call → List PlayingVoice → Call → Type 0
IsStarted bank voices call after done = (done.status ≡ pos 0 → after ≡ after_start voices (new_voices call.id call.note bank)) × ((done.status ≡ pos 0 → ⊥) → after ≡ voices)

abbrev pub IsStartedOn : List Parts → List PlayingVoice → Call → List PlayingVoice → Call → Type 0
IsStartedOn [] voices call after done = Unit {0}
IsStartedOn (bank ∷ _) voices call after done = IsStarted bank voices call after done

-- the frames of the voices, where the values are whole frames
abbrev pub IsPlayed : List PlayingVoice → List ℤ → List PlayingVoice → List ℤ → Type 0
IsPlayed voices out after heard = length out % 2 ≡ 0 → (heard ≡ block voices (length out / 2)) × (after ≡ after_block voices (length out / 2))
