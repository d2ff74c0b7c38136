-- Neutral edits between the note starts and the blocks of a player change no frame.
use Rattle.std.specs.Prelude.{◌≡◌, ℕ, true, List, [], ◌∷◌}
use Rattle.bank_parts.specs.declared.parts.Parts.{Parts}
use Rattle.bank_parts.specs.Sound.{IsSound}
use Rattle.script_notes.specs.Notes.{Numbers}
use Rattle.edit_forms.specs.declared.edit.Edit.{Edit}
use Rattle.edit_refusals.specs.Edits.{raw}
use Rattle.bank_edits.specs.Undone.{IsAccepted}
use Rattle.mixer.specs.declared.playing.PlayingVoice.{PlayingVoice}
use Rattle.mixer.specs.Events as player
use Rattle.mixer.specs.Events.{heard, blocks}
use Rattle.mixer.specs.Alike.{without_edits}
use Rattle.sound_neutral_edits.specs.Neutral.{is_neutral}

-- an edit; a successful note start; a block of a number of frames
pub data Event : Type 0 where
  Edited : Edit → Event
  Started : Numbers → Event
  Given : ℕ → Event

-- the same events for a player, with the bank after each edit
unfoldable pub events_of : Parts → List Event → List player.Event
events_of b [] = []
events_of b (Edited e ∷ es) = player.Edited (raw b e) ∷ events_of (raw b e) es
events_of b (Started n ∷ es) = player.Started n ∷ events_of b es
events_of b (Given m ∷ es) = player.Given m ∷ events_of b es

-- each edit is neutral, and accepted in turn
abbrev pub AreNeutral : Parts → List Event → Type 0
AreNeutral b [] = Unit {0}
AreNeutral b (Edited e ∷ es) = (is_neutral e ≡ true) × IsAccepted b e × AreNeutral (raw b e) es
AreNeutral b (Started n ∷ es) = AreNeutral b es
AreNeutral b (Given m ∷ es) = AreNeutral b es

-- the frames are those of the events without the edits
abbrev pub NeutralFrames : Type 0
NeutralFrames =
    (b : Parts) (es : List Event) → IsSound b → AreNeutral b es
    → heard b (events_of b es) ≡ heard b (without_edits (events_of b es))

-- so are the blocks of a player, whatever it plays at first
abbrev pub NeutralBlocks : Type 0
NeutralBlocks =
    (b : Parts) (ps : List PlayingVoice) (es : List Event) → IsSound b → AreNeutral b es
    → blocks b ps (events_of b es) ≡ blocks b ps (without_edits (events_of b es))
