-- The notes of what was played render as they were heard.
use Rattle.std.proofs.Common.{◌≡◌, ℕ, ◌+◌, ◌≤◌, ℤ, Bool, true, false, cond, nat_le, List, [], ◌∷◌, ◌++◌, map, refl, sym}
use Rattle.std.proofs.Common.{ap, ◌∙◌, arith, append-nil}
use Rattle.bank_parts.specs.declared.parts.Parts.{Parts}
use Rattle.script_notes.specs.Notes.{Numbers}
use Rattle.zone_select.specs.Select.{Voice, selected}
use Rattle.mixer.specs.declared.playing.PlayingVoice.{PlayingVoice}
use Rattle.mixer.specs.declared.playing.Release.TheVariants.{All}
use Rattle.mixer.specs.StartFrames.{Start, playing, note_voices, frames}
use Rattle.mixer.specs.Events.{Event, starts, given, heard, after_start, after_block, block}
use Rattle.mixer.specs.Alike.{LeaveAlike, without_edits}
use Rattle.mixer.specs.Pressed.{KeyEvent, Edited, Started, Pressed, Released, Stopped, Given, held_note, as_notes}
use Rattle.mixer.specs.Pressed.{pressed_voices, after_release, heard_later, heard_keys, key_blocks}
use Rattle.mixer.specs.Order.{placed, in_order, start_of, frames_of, IsRising}
use Rattle.mixer.specs.Render.{first_frames}
use Rattle.mixer.specs.Recorded.{played, recorded, key_frames, HasNoStop}
use Rattle.mixer.proofs.AlikeLaws.{alike_heard, given-without_edits}
use Rattle.mixer.proofs.PressedLaws.{presses_heard}
use Rattle.mixer.proofs.RetimedNotes.{selected_anywhere}
use Rattle.mixer.proofs.StartOrder.{rising-from, at_least, frames_are}

-- the events, and then a release of all notes
abbrev pub closed : List KeyEvent → List KeyEvent
closed es = es ++ Released All ∷ []

-- ---- a release at the end

closed_blocks : (b : Parts) (es : List KeyEvent) (ps : List PlayingVoice) → key_blocks b ps (closed es) ≡ key_blocks b ps es
unfolding key_blocks
closed_blocks b [] ps = refl
closed_blocks b (Edited c ∷ es) ps = closed_blocks c es ps
closed_blocks b (Started n ∷ es) ps = closed_blocks b es (after_start ps (note_voices b n))
closed_blocks b (Pressed h n ∷ es) ps = closed_blocks b es (after_start ps (pressed_voices b h n))
closed_blocks b (Released r ∷ es) ps = closed_blocks b es (after_release ps r)
closed_blocks b (Stopped ∷ es) ps = closed_blocks b es []
closed_blocks b (Given m ∷ es) ps = ap (λ (fs : List ℤ). block ps m ++ fs) (closed_blocks b es (after_block ps m))

closed_goes_on : (es : List KeyEvent) → HasNoStop es → HasNoStop (closed es)
closed_goes_on [] h = tt
closed_goes_on (Edited c ∷ es) h = closed_goes_on es h
closed_goes_on (Started n ∷ es) h = closed_goes_on es h
closed_goes_on (Pressed k n ∷ es) h = closed_goes_on es h
closed_goes_on (Released r ∷ es) h = closed_goes_on es h
closed_goes_on (Stopped ∷ es) h = absurd h
closed_goes_on (Given m ∷ es) h = closed_goes_on es h

closed_alike : (b : Parts) (es : List KeyEvent) → LeaveAlike b (as_notes es) → LeaveAlike b (as_notes (closed es))
unfolding as_notes
closed_alike b [] h = tt
closed_alike b (Edited c ∷ es) h = (h.0, closed_alike c es h.1)
closed_alike b (Started n ∷ es) h = closed_alike b es h
closed_alike b (Pressed k n ∷ es) h = closed_alike b es h
closed_alike b (Released r ∷ es) h = closed_alike b es h
closed_alike b (Stopped ∷ es) h = tt
closed_alike b (Given m ∷ es) h = closed_alike b es h

closed_given : (es : List KeyEvent) → given (as_notes (closed es)) ≡ given (as_notes es)
unfolding as_notes given
closed_given [] = refl
closed_given (Edited c ∷ es) = closed_given es
closed_given (Started n ∷ es) = closed_given es
closed_given (Pressed k n ∷ es) = closed_given es
closed_given (Released r ∷ es) = closed_given es
closed_given (Stopped ∷ es) = refl
closed_given (Given m ∷ es) = ap (λ (k : ℕ). m + k) (closed_given es)

frames_of_notes : (es : List KeyEvent) → HasNoStop es → given (as_notes es) ≡ key_frames es
unfolding as_notes given key_frames
frames_of_notes [] h = refl
frames_of_notes (Edited c ∷ es) h = frames_of_notes es h
frames_of_notes (Started n ∷ es) h = frames_of_notes es h
frames_of_notes (Pressed k n ∷ es) h = frames_of_notes es h
frames_of_notes (Released r ∷ es) h = frames_of_notes es h
frames_of_notes (Stopped ∷ es) h = absurd h
frames_of_notes (Given m ∷ es) h = ap (λ (k : ℕ). m + k) (frames_of_notes es h)

nothing_later : (b : Parts) (es : List KeyEvent) → HasNoStop es → heard_later b es ≡ []
unfolding heard_later
nothing_later b [] h = refl
nothing_later b (Edited c ∷ es) h = nothing_later c es h
nothing_later b (Started n ∷ es) h = nothing_later b es h
nothing_later b (Pressed k n ∷ es) h = nothing_later b es h
nothing_later b (Released r ∷ es) h = nothing_later b es h
nothing_later b (Stopped ∷ es) h = absurd h
nothing_later b (Given m ∷ es) h = nothing_later b es h

all_at_once : (b : Parts) (es : List KeyEvent) → HasNoStop es → heard_keys b es ≡ heard b (as_notes es)
all_at_once b es h =
    ap (λ (fs : List ℤ). heard b (as_notes es) ++ fs) (nothing_later b es h) ∙ append-nil (heard b (as_notes es))

-- the frames don't depend on when held notes end
closed_heard : (b : Parts) (es : List KeyEvent) → HasNoStop es → heard_keys b es ≡ heard b (as_notes (closed es))
closed_heard b es h =
    sym (presses_heard b es) ∙ sym (closed_blocks b es []) ∙ presses_heard b (closed es)
    ∙ all_at_once b (closed es) (closed_goes_on es h)

-- ---- the starts

start_each : (t : ℕ) (n : Numbers) (vs : List Voice) → map (playing n) vs ≡ map (playing (record n { start = t })) vs
unfolding playing
start_each t n [] = refl
start_each t n (v ∷ vs) = ap (λ (ps : List PlayingVoice). playing n v ∷ ps) (start_each t n vs)

start_anywhere : (b : Parts) (t : ℕ) (n : Numbers) → note_voices b n ≡ note_voices b (record n { start = t })
unfolding note_voices
start_anywhere b t n =
    start_each t n (selected b n) ∙ ap (map (playing (record n { start = t }))) (sym (selected_anywhere b t n))

starts_played : (b : Parts) (t : ℕ) (es : List KeyEvent) → HasNoStop es
    → starts b t (without_edits (as_notes es)) ≡ map (start_of b) (played t es)
unfolding starts without_edits as_notes start_of played
starts_played b t [] h = refl
starts_played b t (Edited c ∷ es) h = starts_played b t es h
starts_played b t (Started n ∷ es) h =
    λ j. (let s : Start = record { frame = t; voices = start_anywhere b t n j } in s) ∷ starts_played b t es h j
starts_played b t (Pressed k n ∷ es) h =
    λ j.
    (let s : Start = record { frame = t; voices = start_anywhere b t (held_note k n es) j } in s)
    ∷ starts_played b t es h j
starts_played b t (Released r ∷ es) h = starts_played b t es h
starts_played b t (Stopped ∷ es) h = absurd h
starts_played b t (Given m ∷ es) h = starts_played b (t + m) es h

-- ---- the notes are sorted

no_later : (t : ℕ) → t ≤ t
no_later t = omega arith

rising_played : (t : ℕ) (es : List KeyEvent) → IsRising t (played t es)
unfolding played
rising_played t [] = tt
rising_played t (Edited c ∷ es) = rising_played t es
rising_played t (Started n ∷ es) = (no_later t, rising_played t es)
rising_played t (Pressed k n ∷ es) = (no_later t, rising_played t es)
rising_played t (Released r ∷ es) = rising_played t es
rising_played t (Stopped ∷ es) = rising_played t es
rising_played t (Given m ∷ es) = rising-from t (t + m) (played (t + m) es) (omega arith) (rising_played (t + m) es)

placed_first : (n : Numbers) (ms : List Numbers) → IsRising n.start ms → placed n ms ≡ n ∷ ms
unfolding placed
placed_first n [] r = refl
placed_first n (m ∷ ms) r =
    ap (λ (b : Bool). cond b (n ∷ m ∷ ms) (m ∷ placed n ms)) (at_least n.start m.start r.0)

sorted_already : (t : ℕ) (ns : List Numbers) → IsRising t ns → in_order ns ≡ ns
unfolding in_order
sorted_already t [] r = refl
sorted_already t (n ∷ ns) r = ap (placed n) (sorted_already n.start ns r.1) ∙ placed_first n ns r.1

-- ---- the law

pub recordings_heard : (b : Parts) (es : List KeyEvent) → HasNoStop es → LeaveAlike b (as_notes es)
    → heard_keys b es ≡ first_frames b (recorded es) (key_frames es)
unfolding heard frames_of
recordings_heard b es h alike =
    let fs : List KeyEvent = closed es in
    let ns : List Numbers = played 0 fs in
    let m : ℕ = key_frames es in
    let count : given (without_edits (as_notes fs)) ≡ m =
    sym (given-without_edits (as_notes fs)) ∙ closed_given es ∙ frames_of_notes es h in
    closed_heard b es h
    ∙ alike_heard b (as_notes fs) (closed_alike b es alike)
    ∙ (λ j. frames (starts_played b 0 fs (closed_goes_on es h) j) 0 (count j))
    ∙ ap (λ (ms : List Numbers). frames_of b ms m) (sym (sorted_already 0 ns (rising_played 0 fs)))
    ∙ frames_are b ns m
