-- The notes that were played.
use Rattle.std.specs.Prelude.{◌≡◌, ◌≤◌, ℕ, ◌+◌, ◌-◌, ◌==◌, ◌&&◌, min, Bool, cond, nat_le, nat_lt, if◌then◌else◌, List, [], ◌∷◌, ◌++◌, length, Option}
use Rattle.std.specs.Prelude.{Some, None}
use Rattle.std.specs.List.{AllByRecursion}
use Rattle.std.specs.Option.{option_map_or}
use Rattle.script_notes.specs.declared.limits.TheConstants.{LAST_FRAME, MOST_NOTES}
use Rattle.script_notes.specs.Notes.{Numbers}
use Rattle.mixer.specs.declared.playing.Release.{Release}
use Rattle.mixer.specs.Pressed.{ends}
use Rattle.script_of_notes.specs.NoteTexts.{IsListed}
use Rattle.live_sessions.specs.declared.played.PlayedNote.{PlayedNote}

-- the note from frame t on, which ends by the last frame of a note list; none if it starts after that frame
unfoldable pub moved_to : ℕ → Numbers → Option Numbers
moved_to t n =
    if nat_le t LAST_FRAME then Some (record n { start = t; length = min n.length (LAST_FRAME - t) }) else None

abbrev pub with_note : List PlayedNote → ℕ → Option Numbers → List PlayedNote
with_note ps handle None = ps
with_note ps handle (Some n) = ps ++ record { handle = handle; note = n; end_frame = None } ∷ []

-- the notes with one that starts at frame t, if a note list can have it and all notes before it
abbrev pub with_played : List PlayedNote → ℕ → Numbers → ℕ → List PlayedNote
with_played ps handle n t =
    if handle == length ps && nat_lt handle MOST_NOTES then with_note ps handle (moved_to t n) else ps

-- the frame of a note's end after a release at frame t
unfoldable pub end_after : Option ℕ → Bool → ℕ → Option ℕ
end_after (Some e) is_released t = Some e
end_after None is_released t = cond is_released (Some t) None

unfoldable pub ended_by : Release → ℕ → PlayedNote → PlayedNote
ended_by r t p = record p { end_frame = end_after p.end_frame (ends r p.handle) t }

-- the note with its length; a note that is held ends at frame t
abbrev pub listed : ℕ → PlayedNote → Numbers
listed t p = record p.note { length = min (option_map_or (λ e. e) p.end_frame t - p.note.start) p.note.length }

-- the handles of the notes are k, k + 1, ..
abbrev pub AreNumbered : ℕ → List PlayedNote → Type 0
AreNumbered k [] = Unit {0}
AreNumbered k (p ∷ ps) = (p.handle ≡ k) × AreNumbered (k + 1) ps

-- A note list can have all of them; the handle of each is its index.
pub record AreListed (ps : List PlayedNote) : Type 0 where
  pub numbered : AreNumbered 0 ps
  pub each : AllByRecursion (λ (p : PlayedNote). IsListed p.note) ps
  pub few : length ps ≤ MOST_NOTES
