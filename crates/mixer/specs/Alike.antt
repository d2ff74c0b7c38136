-- Banks that give notes the same voices render them identically.
use Rattle.std.specs.Prelude.{◌≡◌, List, [], ◌∷◌}
use Rattle.std.specs.List.{AllByRecursion}
use Rattle.std.specs.List.Sorted.{IsPermutation}
use Rattle.bank_parts.specs.declared.parts.Parts.{Parts}
use Rattle.script_notes.specs.Notes.{Numbers}
use Rattle.zone_select.specs.Select.{selected}
use Rattle.zone_select.specs.Alike.{AreAlike}
use Rattle.mixer.specs.declared.playing.PlayingVoice.{PlayingVoice}
use Rattle.mixer.specs.Events.{Event, Edited, Started, Given, heard, blocks}
use Rattle.mixer.specs.Render.{render}

-- ---- notes

-- each of the notes has the same voices in both banks, in some order
abbrev pub AreAlikeFor : Parts → Parts → List Numbers → Type 0
AreAlikeFor b c ns = AllByRecursion (λ n. IsPermutation (selected b n) (selected c n)) ns

-- banks with the same voices for each of some notes render these notes identically
abbrev pub AlikeNotesRender : Type 0
AlikeNotesRender = (b c : Parts) (ns : List Numbers) → AreAlikeFor b c ns → render b ns ≡ render c ns

-- banks with the same voices for each note render all notes identically
abbrev pub AlikeRender : Type 0
AlikeRender = (b c : Parts) → AreAlike b c → (ns : List Numbers) → render b ns ≡ render c ns

-- ---- events

-- each edit keeps the voices of each note
abbrev pub LeaveAlike : Parts → List Event → Type 0
LeaveAlike b [] = Unit {0}
LeaveAlike b (Edited c ∷ es) = AreAlike b c × LeaveAlike c es
LeaveAlike b (Started n ∷ es) = LeaveAlike b es
LeaveAlike b (Given m ∷ es) = LeaveAlike b es

-- the events without the edits
unfoldable pub without_edits : List Event → List Event
without_edits [] = []
without_edits (Edited c ∷ es) = without_edits es
without_edits (Started n ∷ es) = Started n ∷ without_edits es
without_edits (Given m ∷ es) = Given m ∷ without_edits es

-- such edits change none of the frames
abbrev pub AlikeFrames : Type 0
AlikeFrames = (b : Parts) (es : List Event) → LeaveAlike b es → heard b es ≡ heard b (without_edits es)

-- such edits change no block of a player, whatever it plays at first
abbrev pub AlikeBlocks : Type 0
AlikeBlocks =
    (b : Parts) (ps : List PlayingVoice) (es : List Event) → LeaveAlike b es
    → blocks b ps es ≡ blocks b ps (without_edits es)
