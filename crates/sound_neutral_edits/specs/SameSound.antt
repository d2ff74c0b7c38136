-- Neutral edits change no sound.
use Rattle.std.specs.Prelude.{◌≡◌, true, List}
use Rattle.bank_parts.specs.declared.parts.Parts.{Parts}
use Rattle.bank_parts.specs.Sound.{IsSound}
use Rattle.script_notes.specs.Notes.{Numbers}
use Rattle.edit_forms.specs.declared.edit.Edit.{Edit}
use Rattle.edit_refusals.specs.Edits.{raw}
use Rattle.bank_edits.specs.EditChanges.{inverse}
use Rattle.bank_edits.specs.Undone.{IsAccepted}
use Rattle.zone_select.specs.Alike.{AreAlike, HavePairsAlike}
use Rattle.mixer.specs.Render.{render}
use Rattle.sound_neutral_edits.specs.Neutral.{is_neutral}

-- each note has the same voices in the changed bank
abbrev pub NeutralAlike : Type 0
NeutralAlike = (b : Parts) (e : Edit) → IsSound b → IsAccepted b e → is_neutral e ≡ true → AreAlike b (raw b e)

-- its pairs of zones correspond one to one to those before, each with the same voice
abbrev pub NeutralPairs : Type 0
NeutralPairs = (b : Parts) (e : Edit) → IsSound b → IsAccepted b e → is_neutral e ≡ true → HavePairsAlike b (raw b e)

-- all notes render identically
abbrev pub NeutralRender : Type 0
NeutralRender =
    (b : Parts) (e : Edit) → IsSound b → IsAccepted b e → is_neutral e ≡ true
    → (ns : List Numbers) → render (raw b e) ns ≡ render b ns

-- the inverse of a neutral edit is neutral
abbrev pub InversesAreNeutral : Type 0
InversesAreNeutral = (b : Parts) (e : Edit) → is_neutral e ≡ true → is_neutral (inverse b e) ≡ true
