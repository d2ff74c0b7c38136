-- What was recorded renders on the current bank, where each edit was neutral.
use Rattle.std.proofs.Common.{◌≡◌, List, [], ◌∷◌, Some, refl, sym, ap, ◌∙◌}
use Rattle.std.specs.List.{flat_map}
use Rattle.bank_parts.specs.declared.parts.Parts.{Parts}
use Rattle.bank_parts.specs.Sound.{IsSound}
use Rattle.inverse_edits.specs.Histories.{bank_now}
use Rattle.mixer.specs.Alike.{LeaveAlike}
use Rattle.mixer.specs.Events.{heard, starts, given}
use Rattle.mixer.specs.Pressed.{KeyEvent, Edited, as_notes, heard_keys, heard_later}
use Rattle.mixer.specs.Recorded.{played, recorded, key_frames, HasNoStop}
use Rattle.mixer.specs.Render.{first_frames}
use Rattle.mixer.proofs.AlikeLaws.{AreAlike-refl}
use Rattle.mixer.proofs.RecordedLaws.{recordings_heard}
use Rattle.script_notes.specs.Notes.{Numbers}
use Rattle.wave_file.specs.Wave.{sample_bytes}
use Rattle.zone_select.specs.Alike.{AreAlike}
use Rattle.live_sessions.specs.declared.live.LiveState.{LiveState}
use Rattle.live_sessions.specs.Laws.{CanBeListed, DoNeutral}
use Rattle.live_sessions.specs.Performances.{recorded_now}
use Rattle.live_sessions.specs.Steps.{started_with}
use Rattle.live_sessions.specs.Turns.{Turn, AreTurns, events_in, bytes_in}
use Rattle.live_sessions.proofs.FrameLaws.{frames_follow_events, recordings_follow_events, turns_keep}
use Rattle.live_sessions.proofs.KeptBanks.{AreKept, IsKept, leave_alike, kept_now}

-- events that begin with an edit
edited_heard : (b c : Parts) (es : List KeyEvent) → heard_keys b (Edited c ∷ es) ≡ heard_keys c es
unfolding as_notes heard_later heard starts given
edited_heard b c es = refl

edited_frames : (b c : Parts) (es : List KeyEvent)
    → first_frames b (recorded (Edited c ∷ es)) (key_frames (Edited c ∷ es)) ≡ first_frames b (recorded es) (key_frames es)
unfolding played key_frames
edited_frames b c es = refl

edited_alike : (b c : Parts) (es : List KeyEvent) → AreAlike b c → LeaveAlike c (as_notes es)
    → LeaveAlike b (as_notes (Edited c ∷ es))
unfolding as_notes
edited_alike b c es a h = (a, h)

-- the same notes on another bank with the same voices
rendered_now : (b c : Parts) (es : List KeyEvent) → HasNoStop es → AreAlike b c → LeaveAlike b (as_notes es)
    → LeaveAlike c (as_notes es) → heard_keys b es ≡ first_frames c (recorded es) (key_frames es)
rendered_now b c es goes a h k =
    recordings_heard b es goes h
    ∙ sym (edited_frames b c es)
    ∙ sym (recordings_heard b (Edited c ∷ es) goes (edited_alike b c es a k))
    ∙ edited_heard b c es
    ∙ recordings_heard c es goes k

pub recordings_render_now : (b c : Parts) (ts : List Turn) (last : LiveState) → IsSound b
    → AreTurns (started_with b) ts last
    → CanBeListed (flat_map events_in ts) → HasNoStop (flat_map events_in ts) → DoNeutral ts
    → bank_now last.session ≡ Some c
    → flat_map bytes_in ts
    ≡ flat_map sample_bytes (first_frames c (recorded_now last.performance) (key_frames (flat_map events_in ts)))
recordings_render_now b c ts last sound h can goes neutral here =
    let es : List KeyEvent = flat_map events_in ts in
    let first : AreKept b (b ∷ []) = ((sound, AreAlike-refl b), tt) in
    let k = turns_keep ts (started_with b) last b b refl h neutral first in
    let now : IsKept b c = kept_now b last.session c k.0 here in
    frames_follow_events b ts last h
    ∙ ap (flat_map sample_bytes)
    (rendered_now b c es goes now.1 (leave_alike b b es (AreAlike-refl b) k.1) (leave_alike b c es now.1 k.1)
    ∙ ap (λ (ns : List Numbers). first_frames c ns (key_frames es)) (sym (recordings_follow_events b ts last h can)))
