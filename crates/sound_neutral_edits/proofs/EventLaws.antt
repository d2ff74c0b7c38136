-- Neutral edits in sequence change no frame.
use Rattle.std.proofs.Common.{◌≡◌, true, List, [], ◌∷◌, sym}
use Rattle.bank_parts.specs.declared.parts.Parts.{Parts}
use Rattle.bank_parts.specs.Sound.{IsSound}
use Rattle.script_notes.specs.Notes.{Numbers}
use Rattle.edit_forms.specs.declared.edit.Edit.{Edit}
use Rattle.edit_refusals.specs.Edits.{raw}
use Rattle.bank_edits.specs.Undone.{IsAccepted}
use Rattle.bank_edits.proofs.Law.{undone}
use Rattle.mixer.specs.declared.playing.PlayingVoice.{PlayingVoice}
use Rattle.mixer.specs.Events.{heard, blocks}
use Rattle.mixer.specs.Render.{render}
use Rattle.mixer.specs.Alike.{LeaveAlike, without_edits}
use Rattle.mixer.proofs.AlikeLaws.{alike_render, alike_heard, alike_blocks}
use Rattle.sound_neutral_edits.specs.Neutral.{is_neutral}
use Rattle.sound_neutral_edits.specs.Events.{Event, Edited, Started, Given, events_of, AreNeutral}
use Rattle.sound_neutral_edits.proofs.FormLaws.{neutral_alike}

pub neutral_render : (b : Parts) (e : Edit) → IsSound b → IsAccepted b e → is_neutral e ≡ true → (ns : List Numbers)
    → render (raw b e) ns ≡ render b ns
neutral_render b e sound t n ns = sym (alike_render b (raw b e) (neutral_alike b e sound t n) ns)

leave_alike : (b : Parts) (es : List Event) → IsSound b → AreNeutral b es → LeaveAlike b (events_of b es)
unfolding events_of
leave_alike b [] sound h = tt
leave_alike b (Edited e ∷ es) sound h =
    (neutral_alike b e sound h.1 h.0, leave_alike (raw b e) es (undone b e sound h.1).sound h.2)
leave_alike b (Started n ∷ es) sound h = leave_alike b es sound h
leave_alike b (Given m ∷ es) sound h = leave_alike b es sound h

pub neutral_heard : (b : Parts) (es : List Event) → IsSound b → AreNeutral b es
    → heard b (events_of b es) ≡ heard b (without_edits (events_of b es))
neutral_heard b es sound h = alike_heard b (events_of b es) (leave_alike b es sound h)

pub neutral_blocks : (b : Parts) (ps : List PlayingVoice) (es : List Event) → IsSound b → AreNeutral b es
    → blocks b ps (events_of b es) ≡ blocks b ps (without_edits (events_of b es))
neutral_blocks b ps es sound h = alike_blocks b ps (events_of b es) (leave_alike b es sound h)
