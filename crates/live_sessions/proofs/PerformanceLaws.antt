-- What happens to the notes of a session, as events of its player and as notes that were played.
use Rattle.std.proofs.Common.{◌≡◌, ℕ, List, [], ◌∷◌, ◌++◌, refl, ◌∙◌}
use Rattle.bank_parts.specs.declared.parts.Parts.{Parts}
use Rattle.script_notes.specs.Notes.{Numbers}
use Rattle.mixer.specs.declared.playing.PlayingVoice.{PlayingVoice}
use Rattle.mixer.specs.declared.playing.Release.{Release}
use Rattle.mixer.specs.declared.playing.Release.TheVariants.{One}
use Rattle.mixer.specs.Events.{after_start}
use Rattle.mixer.specs.Pressed.{KeyEvent, Pressed, Released, Stopped, key_blocks, pressed_voices, after_release}
use Rattle.live_sessions.specs.declared.held.HeldNote.{HeldNote}
use Rattle.live_sessions.specs.declared.performance.Performance.{Performance}
use Rattle.live_sessions.specs.Performances.{note_started, notes_released, all_stopped, released_in_turn}
use Rattle.live_sessions.specs.Steps.{each_released}
use Rattle.live_sessions.proofs.PlayedLaws.{Fit, GoesOn, pressed_on, released_on, stopped_on}

-- these events lead from one to the other as far as the notes that were played are concerned
abbrev pub NotesGoOn : Performance → Performance → List KeyEvent → Type 0
NotesGoOn s u events =
    (es : List KeyEvent) → Fit s.given s.next_handle s.played (events ++ es)
    → GoesOn s.given u.given u.next_handle s.played u.played (events ++ es) es

-- without a frame, these events lead from one to the other
pub record Performs (b : Parts) (s u : Performance) (events : List KeyEvent) : Type 0 where
  pub blocks : (es : List KeyEvent) → key_blocks b s.player (events ++ es) ≡ key_blocks b u.player es
  pub notes : NotesGoOn s u events

pub nothing_goes_on : (s : Performance) → NotesGoOn s s []
nothing_goes_on s = λ es h. record { fit = h; same = refl }

pub performs_nothing : (b : Parts) (s : Performance) → Performs b s s []
performs_nothing b s = record { blocks = λ es. refl; notes = nothing_goes_on s }

pressed_blocks : (b : Parts) (handle : ℕ) (n : Numbers) (ps : List PlayingVoice) (es : List KeyEvent)
    → key_blocks b ps (Pressed handle n ∷ es) ≡ key_blocks b (after_start ps (pressed_voices b handle n)) es
unfolding key_blocks
pressed_blocks b handle n ps es = refl

pub performs_press : (b : Parts) (s : Performance) (n : Numbers)
    → Performs b s (note_started s b n) (Pressed s.next_handle n ∷ [])
performs_press b s n = record {
  blocks = λ es. pressed_blocks b s.next_handle n s.player es;
  notes = λ es h. pressed_on s.given s.played s.next_handle n es h;
}

released_blocks : (b : Parts) (r : Release) (ps : List PlayingVoice) (es : List KeyEvent)
    → key_blocks b ps (Released r ∷ es) ≡ key_blocks b (after_release ps r) es
unfolding key_blocks
released_blocks b r ps es = refl

pub performs_release : (b : Parts) (s : Performance) (r : Release) → Performs b s (notes_released s r) (Released r ∷ [])
performs_release b s r = record {
  blocks = λ es. released_blocks b r s.player es;
  notes = λ es h. released_on s.given s.next_handle s.played r es h;
}

stopped_blocks : (b : Parts) (ps : List PlayingVoice) (es : List KeyEvent)
    → key_blocks b ps (Stopped ∷ es) ≡ key_blocks b [] es
unfolding key_blocks
stopped_blocks b ps es = refl

pub performs_stop : (b : Parts) (s : Performance) → Performs b s (all_stopped s) (Stopped ∷ [])
performs_stop b s = record {
  blocks = λ es. stopped_blocks b s.player es;
  notes = λ es h. stopped_on s.given s.next_handle s.played es h;
}

pub performs_in_turn : (b : Parts) (s : Performance) (hs : List HeldNote)
    → Performs b s (released_in_turn s hs) (each_released hs)
unfolding released_in_turn
performs_in_turn b s [] = performs_nothing b s
performs_in_turn b s (h ∷ hs) =
    let first = performs_release b s (One h.handle) in
    let rest = performs_in_turn b (notes_released s (One h.handle)) hs in
    record {
      blocks = λ es. first.blocks (each_released hs ++ es) ∙ rest.blocks es;
      notes = λ es f.
          (let one = first.notes (each_released hs ++ es) f in
          let more = rest.notes es one.fit in
          record { fit = more.fit; same = one.same ∙ more.same });
    }
