-- Notes that start on a player.
use Rattle.std.specs.Prelude.{ℕ, ℤ, pos, List, [], Option, Some, None}
use Rattle.bank_parts.specs.declared.parts.Parts.{Parts}
use Rattle.script_notes.specs.Notes.{Numbers, note_of}
use Rattle.mixer.specs.declared.playing.PlayingVoice.{PlayingVoice}
use Rattle.mixer.specs.Events.{after_start}
use Rattle.mixer.specs.Pressed.{pressed_voices}
use Rattle.mixer.specs.StartFrames.{note_voices}
use Rattle.sfbank_c.specs.declared.bank_handle.BankHandle.{BankHandle}
use Rattle.sfbank_c.specs.declared.open_player.OpenPlayer.{OpenPlayer}
use Rattle.sfbank_c.specs.declared.player_handle.PlayerHandle.{PlayerHandle}
use Rattle.sfbank_c.specs.declared.status.TheConstants.{BAD_NOTE}
use Rattle.sfbank_c.specs.BankSlots as banks
use Rattle.sfbank_c.specs.PlayerSlots as players
use Rattle.sfbank_c.specs.Banks.{of_bank}

-- a note of a preset, by its bank and preset numbers, that starts now; none if a number is out of range
abbrev pub note_from : ℕ → ℕ → ℕ → ℕ → ℕ → Option Numbers
note_from length bank number key velocity =
    note_of (record { start = 0; length = length; bank = bank; number = number; key = key; velocity = velocity })

abbrev pub note_status : Option Numbers → ℤ
note_status None = BAD_NOTE
note_status (Some n) = pos 0

-- the error of a handle, first of the player's, or that of the note
abbrev pub start_status : List PlayerHandle → List BankHandle → Option Numbers → ℤ
start_status ps bs note = players.open_status ps (banks.open_status bs (note_status note))

-- the voices of a note on a bank; one with an id is pressed
abbrev pub voices_of : Option ℕ → Numbers → Parts → List PlayingVoice
voices_of None n b = note_voices b n
voices_of (Some id) n b = pressed_voices b id n

-- the same of a note whose numbers may be out of range
abbrev pub new_voices : Option ℕ → Option Numbers → Parts → List PlayingVoice
new_voices id None b = []
new_voices id (Some n) b = voices_of id n b

-- a player after these voices started
abbrev pub joined : List PlayingVoice → OpenPlayer → OpenPlayer
joined new p = record { player = after_start p.player new }

-- a player after a note on the bank of a handle started; one with an id is pressed
abbrev pub started : List BankHandle → Option ℕ → Option Numbers → OpenPlayer → OpenPlayer
started bs id note p = joined (of_bank [] (new_voices id note) (banks.bank_in bs)) p
