-- Laws of all sessions.
use Rattle.std.specs.Prelude.{◌≡◌, ◌≤◌, true, List, Option, Some, Ok, length, reverse}
use Rattle.std.specs.List.{flat_map, AllByRecursion}
use Rattle.bank_parts.specs.declared.parts.Parts.{Parts}
use Rattle.bank_parts.specs.Sound.{IsSound}
use Rattle.bank_edits.specs.Runs.{AllAccepted, after_all}
use Rattle.inverse_edits.specs.Histories.{IsHistory, bank_now, undo_edits}
use Rattle.mixer.specs.Alike.{LeaveAlike}
use Rattle.mixer.specs.Pressed.{KeyEvent, as_notes, heard_keys}
use Rattle.mixer.specs.Recorded.{recorded, key_frames, HasNoStop}
use Rattle.mixer.specs.Render.{first_frames}
use Rattle.script_notes.specs.declared.limits.TheConstants.{LAST_FRAME, MOST_NOTES}
use Rattle.sound_neutral_edits.specs.Neutral.{is_neutral}
use Rattle.wave_file.specs.Wave.{sample_bytes}
use Rattle.live_lines.specs.declared.answer.Answer.{Answer}
use Rattle.live_lines.specs.declared.answer.Answer.TheVariants as answer
use Rattle.live_lines.specs.declared.request.Request.{Request}
use Rattle.live_lines.specs.declared.request.Request.TheVariants as asks
use Rattle.live_sessions.specs.declared.live.LiveState.{LiveState}
use Rattle.live_sessions.specs.Performances.{recorded_now}
use Rattle.live_sessions.specs.Steps.{started_with}
use Rattle.live_sessions.specs.Turns.{RequestResult, Turn, AreTurns, request_in, events_in, bytes_in}

-- The frames that are written are those of the session's events in the order of their lines: edits (also undone and
-- redone), starts of notes, each on the bank at that time, and blocks of frames. A pressed note is a note that lasts
-- until its release, and is silent after an end of all voices.
abbrev pub FramesFollowEvents : Type 0
FramesFollowEvents =
    (b : Parts) (ts : List Turn) (last : LiveState) → AreTurns (started_with b) ts last
    → flat_map bytes_in ts ≡ flat_map sample_bytes (heard_keys b (flat_map events_in ts))

-- the events of a session's lines fit into a note list
pub record CanBeListed (es : List KeyEvent) : Type 0 where
  pub frames : key_frames es ≤ LAST_FRAME
  pub notes : length (recorded es) ≤ MOST_NOTES

-- The notes that a recording would have are those of the session's events: each from its start to its release, or up to
-- now.
abbrev pub RecordingsFollowEvents : Type 0
RecordingsFollowEvents =
    (b : Parts) (ts : List Turn) (last : LiveState) → AreTurns (started_with b) ts last
    → CanBeListed (flat_map events_in ts)
    → recorded_now last.performance ≡ recorded (flat_map events_in ts)

-- They render as the frames that the session wrote, where nothing ended all voices and each edit kept the voices of each
-- note.
abbrev pub RecordingsRender : Type 0
RecordingsRender =
    (b : Parts) (ts : List Turn) (last : LiveState) → AreTurns (started_with b) ts last
    → CanBeListed (flat_map events_in ts) → HasNoStop (flat_map events_in ts)
    → LeaveAlike b (as_notes (flat_map events_in ts))
    → flat_map bytes_in ts
    ≡ flat_map sample_bytes (first_frames b (recorded_now last.performance) (key_frames (flat_map events_in ts)))

-- an edit that the line of an edit does is neutral
abbrev pub IsNeutralEdit : Request → Answer → Type 0
IsNeutralEdit (asks.Edit e) answer.Done = is_neutral e ≡ true
IsNeutralEdit r a = Unit {0}

abbrev pub DoesNeutral : RequestResult → Option Answer → Type 0
DoesNeutral (Ok (Some r)) (Some a) = IsNeutralEdit r a
DoesNeutral asks a = Unit {0}

-- each edit of these lines is neutral
abbrev pub DoNeutral : List Turn → Type 0
DoNeutral ts = AllByRecursion (λ (t : Turn). DoesNeutral (request_in t) t.answer) ts

-- They render on the current bank as the frames that the session wrote, where nothing ended all voices and each edit was
-- neutral. The other premise is that its first bank is sound, as each bank is that is read of a file.
abbrev pub RecordingsRenderNow : Type 0
RecordingsRenderNow =
    (b c : Parts) (ts : List Turn) (last : LiveState) → IsSound b → AreTurns (started_with b) ts last
    → CanBeListed (flat_map events_in ts) → HasNoStop (flat_map events_in ts) → DoNeutral ts
    → bank_now last.session ≡ Some c
    → flat_map bytes_in ts
    ≡ flat_map sample_bytes (first_frames c (recorded_now last.performance) (key_frames (flat_map events_in ts)))

-- At any time in a session its bank is sound, and accepts the edits of the undo list in reverse order, which lead to
-- the bank with which the session began.
abbrev pub UndoListsLeadBack : Type 0
UndoListsLeadBack =
    (b c : Parts) (ts : List Turn) (last : LiveState) → IsSound b → AreTurns (started_with b) ts last
    → IsHistory last.session → bank_now last.session ≡ Some c
    → IsSound c × AllAccepted c (reverse (undo_edits last.session)) × (after_all c (reverse (undo_edits last.session)) ≡ b)
