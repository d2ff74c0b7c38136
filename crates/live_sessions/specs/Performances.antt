-- The notes of a session: those that sound, and all that were played.
use Rattle.std.specs.Prelude.{ℕ, ◌+◌, ◌-◌, ◌^◌, min, Bool, ◌==◌, ◌&&◌, List, [], ◌∷◌, map}
use Rattle.bank_parts.specs.declared.parts.Parts.{Parts}
use Rattle.script_notes.specs.Notes.{Numbers}
use Rattle.mixer.specs.declared.playing.Release.{Release}
use Rattle.mixer.specs.declared.playing.Release.TheVariants.{One, All}
use Rattle.mixer.specs.Events.{after_start, after_block}
use Rattle.mixer.specs.Pressed.{pressed_voices, after_release}
use Rattle.live_lines.specs.declared.pedal.Pedal.{Pedal}
use Rattle.live_sessions.specs.declared.held.HeldNote.{HeldNote}
use Rattle.live_sessions.specs.declared.performance.Performance.{Performance}
use Rattle.live_sessions.specs.PlayedNotes.{with_played, ended_by, listed}

-- counts of frames and handles go up to this number, and stay there
abbrev pub most : ℕ
most = 2 ^ 64 - 1

-- all notes so far
abbrev pub recorded_now : Performance → List Numbers
recorded_now s = map (listed s.given) s.played

-- ---- what happens to them

-- a note starts at the next frame, with the next handle
abbrev pub note_started : Performance → Parts → Numbers → Performance
note_started s b n = record s {
  player = after_start s.player (pressed_voices b s.next_handle n);
  played = with_played s.played s.next_handle n s.given;
  next_handle = min (s.next_handle + 1) most;
}

abbrev pub notes_released : Performance → Release → Performance
notes_released s r = record s { player = after_release s.player r; played = map (ended_by r s.given) s.played }

abbrev pub all_stopped : Performance → Performance
all_stopped s = record s { player = []; played = map (ended_by All s.given) s.played }

abbrev pub frames_given : Performance → ℕ → Performance
frames_given s m = record s { player = after_block s.player m; given = min (s.given + m) most }

-- only the pedal holds the note
abbrev pub is_sustained_by : Pedal → HeldNote → Bool
is_sustained_by p h = h.is_sustained && (h.key.bank == p.bank && h.key.number == p.number)

-- held notes are released one after another
unfoldable pub released_in_turn : Performance → List HeldNote → Performance
released_in_turn s [] = s
released_in_turn s (h ∷ hs) = released_in_turn (notes_released s (One h.handle)) hs
