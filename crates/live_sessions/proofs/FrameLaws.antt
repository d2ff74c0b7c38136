-- The frames that are written, and the notes that were played, are those of the session's events.
use Rattle.std.proofs.Common.{◌≡◌, ◌<◌, ◌+◌, inl, inr, ℕ, ℤ, zero, suc, Bool, true, false, cond, List, [], ◌∷◌, ◌++◌, map}
use Rattle.std.proofs.Common.{length, take, Option, Some, None, Ok, Err, slice_get, refl, sym, ap, subst, ◌∙◌, arith}
use Rattle.std.proofs.Common.{length-take}
use Rattle.std.specs.List.{flat_map, list_any}
use Rattle.std.specs.Option.{option_map_or}
use Rattle.std.proofs.lemmas.Grind.{flat_map-append}
use Rattle.bank_parts.specs.declared.parts.Parts.{Parts}
use Rattle.edit_forms.specs.declared.edit.Edit.{Edit}
use Rattle.edit_refusals.specs.Edits.{raw}
use Rattle.inverse_edits.specs.Histories.{History, bank_now, IsEdited}
use Rattle.inverse_edits.proofs.ListLaws.{get_seam}
use Rattle.mixer.specs.declared.playing.PlayingVoice.{PlayingVoice}
use Rattle.mixer.specs.declared.playing.Release.TheVariants.{One, All}
use Rattle.mixer.specs.Alike.{LeaveAlike}
use Rattle.mixer.specs.Events.{after_block, block}
use Rattle.mixer.specs.Pressed.{KeyEvent, Edited, Pressed, Released, Stopped, Given, key_blocks, as_notes, heard_keys}
use Rattle.mixer.specs.Recorded.{recorded, key_frames, HasNoStop}
use Rattle.mixer.specs.Render.{first_frames}
use Rattle.mixer.proofs.PressedLaws.{presses_heard}
use Rattle.mixer.proofs.RecordedLaws.{recordings_heard}
use Rattle.script_notes.specs.Notes.{Numbers}
use Rattle.sound_neutral_edits.specs.Neutral.{is_neutral}
use Rattle.wave_file.specs.Wave.{sample_bytes}
use Rattle.live_lines.specs.declared.answer.Answer.{Answer}
use Rattle.live_lines.specs.declared.answer.Answer.TheVariants as answer
use Rattle.live_lines.specs.declared.paths.Paths.{Paths}
use Rattle.live_lines.specs.declared.pedal.Pedal.{Pedal}
use Rattle.live_lines.specs.declared.pedal.PedalPosition.{PedalPosition}
use Rattle.live_lines.specs.declared.pedal.PedalPosition.TheVariants as position
use Rattle.live_lines.specs.declared.request.Key.{Key}
use Rattle.live_lines.specs.declared.request.Request.{Request}
use Rattle.live_lines.specs.declared.request.Request.TheVariants as asks
use Rattle.live_sessions.specs.declared.held.HeldNote.{HeldNote}
use Rattle.live_sessions.specs.declared.live.LiveState.{LiveState}
use Rattle.live_sessions.specs.declared.performance.Performance.{Performance}
use Rattle.live_sessions.specs.Laws.{CanBeListed, IsNeutralEdit, DoesNeutral, DoNeutral}
use Rattle.live_sessions.specs.Performances.{note_started, notes_released, all_stopped, frames_given, released_in_turn}
use Rattle.live_sessions.specs.Performances.{recorded_now}
use Rattle.live_sessions.specs.Steps.{RequestIs, EditIs, NeutralIs, UndoIs, RedoIs, NoteIs, PressIs, ReleaseIs, PedalOnIs}
use Rattle.live_sessions.specs.Steps.{PedalOffIs, PedalMovesTo, SilenceIs, StopIs, FramesAre, RecordIs, SaveIs, VoicesAre}
use Rattle.live_sessions.specs.Steps.{MeterIs, ShowIs, OnlyTheBank, StartsVoices, events_of, frames_of, if_edited}
use Rattle.live_sessions.specs.Steps.{if_pressed, if_released, if_silenced, if_stopped, if_given, of_key, of_pedal}
use Rattle.live_sessions.specs.Steps.{each_released, sustained_by, with_pedal, after_pedal, is_pedal, pedal_of, first_held}
use Rattle.live_sessions.specs.Steps.{held_by, held_without, sustained_as, after_key, block_if, after_frames, started_with}
use Rattle.live_sessions.specs.Turns.{RequestResult, LineIs, Turn, request_in, answered, events_in, frames_in, bytes_in, AreTurns}
use Rattle.live_sessions.proofs.AnsweredLines.{nothing_done}
use Rattle.live_sessions.proofs.KeptBanks.{AreKept, EditsKeep, change_keeps, edit_keeps, undo_keeps, redo_keeps, releases_keep}
use Rattle.live_sessions.proofs.KeptBanks.{edits_keep_both}
use Rattle.live_sessions.proofs.PerformanceLaws.{NotesGoOn, Performs, performs_nothing, performs_press, performs_release}
use Rattle.live_sessions.proofs.PerformanceLaws.{performs_stop, performs_in_turn}
use Rattle.live_sessions.proofs.PlayedLaws.{Fit, listing, edited_on, given_on, listing_last}

-- ---- one request

-- After a request there is a bank, the first bank is unchanged, the request's events render as these frames, followed by
-- the player's next blocks, and give the notes that were played. If its edit is neutral, all banks keep the voices.
record RendersAs (neutral : Type 0) (old new : LiveState) (b : Parts) (events : List KeyEvent) (frames : List ℤ) : Type 0 where
  bank : Parts
  here : bank_now new.session ≡ Some bank
  first_bank : slice_get new.session.banks 0 ≡ slice_get old.session.banks 0
  blocks_are : (es : List KeyEvent)
      → key_blocks b old.performance.player (events ++ es) ≡ frames ++ key_blocks bank new.performance.player es
  notes_are : NotesGoOn old.performance new.performance events
  kept : neutral → (first : Parts) → AreKept first old.session.banks
      → AreKept first new.session.banks × EditsKeep first events

-- the bank stays, and there are no frames
performed_renders : (n : Type 0) (old new : LiveState) (b : Parts) (s : Performance) (events : List KeyEvent)
    → bank_now old.session ≡ Some b → new.session ≡ old.session → new.performance ≡ s
    → Performs b old.performance s events → ((first : Parts) → EditsKeep first events) → RendersAs n old new b events []
performed_renders n old new b s events here same e p keep = record {
  bank = b;
  here = ap bank_now same ∙ here;
  first_bank = ap (λ (h : History). slice_get h.banks 0) same;
  blocks_are = λ es. p.blocks es ∙ ap (λ (u : Performance). key_blocks b u.player es) (sym e);
  notes_are = subst (λ (u : Performance). NotesGoOn old.performance u events) (sym e) p.notes;
  kept = λ _ first k. (subst (λ (h : History). AreKept first h.banks) (sym same) k, keep first);
}

renders_nothing : (n : Type 0) (old new : LiveState) (b : Parts) → bank_now old.session ≡ Some b → new ≡ old
    → RendersAs n old new b [] []
renders_nothing n old new b here e =
    performed_renders n old new b old.performance [] here (ap (λ (s : LiveState). s.session) e)
    (ap (λ (s : LiveState). s.performance) e) (performs_nothing b old.performance) (λ first. tt)

edited_blocks : (b c : Parts) (ps : List PlayingVoice) (es : List KeyEvent) → key_blocks b ps (Edited c ∷ es) ≡ key_blocks c ps es
unfolding key_blocks
edited_blocks b c ps es = refl

bank_change_renders : (n : Type 0) (old new : LiveState) (b c : Parts) → bank_now new.session ≡ Some c
    → slice_get new.session.banks 0 ≡ slice_get old.session.banks 0 → OnlyTheBank old new
    → (n → (first : Parts) → AreKept first old.session.banks → AreKept first new.session.banks)
    → RendersAs n old new b (if_edited answer.Done new) []
bank_change_renders n old new b c here first_bank only keep =
    let same : new.performance ≡ old.performance = ap (λ (s : LiveState). s.performance) only in
    let notes : NotesGoOn old.performance old.performance (Edited c ∷ []) =
    λ es h. edited_on old.performance.given old.performance.next_handle old.performance.played c es h in
    record {
      bank = c;
      here = here;
      first_bank = first_bank;
      blocks_are = λ es.
          ap
          (λ (o : Option Parts).
          key_blocks b old.performance.player (option_map_or (λ (d : Parts). Edited d ∷ []) o [] ++ es))
          here
          ∙ edited_blocks b c old.performance.player es
          ∙ ap (λ (s : Performance). key_blocks c s.player es) (sym same);
      notes_are =
          subst (λ (u : Performance). NotesGoOn old.performance u (if_edited answer.Done new)) (sym same)
          (subst
          (λ (o : Option Parts).
          NotesGoOn old.performance old.performance (option_map_or (λ (d : Parts). Edited d ∷ []) o []))
          (sym here) notes);
      kept = λ x first k. (keep x first k, change_keeps first new.session c here (keep x first k));
    }

-- there is a bank at each position
get_within : {X : Type 0} (xs : List X) (k : ℕ) → k < length xs → (x : X) × (slice_get xs k ≡ Some x)
get_within [] k h = absurd (omega arith)
get_within (x ∷ xs) zero h = (x, refl)
get_within (x ∷ xs) (suc k) h = get_within xs k (omega arith)

got_within : {X : Type 0} (xs : List X) (k : ℕ) (x : X) → slice_get xs k ≡ Some x → k < length xs
got_within [] k x h = absurd cc
got_within (y ∷ xs) zero x h = omega arith
got_within (y ∷ xs) (suc k) x h = let w : k < length xs = got_within xs k x h in omega arith

get_pushed : {X : Type 0} (xs : List X) (k : ℕ) (x : X) → k ≡ length xs → slice_get (xs ++ x ∷ []) k ≡ Some x
get_pushed xs k x e = ap (λ (n : ℕ). slice_get (xs ++ x ∷ []) n) e ∙ get_seam xs [] x

now_edited : (old new : History) (e : Edit) (h : IsEdited old new e) → bank_now new ≡ Some (raw h.bank e)
now_edited old new e h =
    let within : old.index < length old.banks = got_within old.banks old.index h.bank h.here in
    let long : old.index + 1 ≡ length (take (old.index + 1) old.banks) =
    omega (arith, length-take (old.index + 1) old.banks) in
    ap bank_now h.changed ∙ get_pushed (take (old.index + 1) old.banks) (old.index + 1) (raw h.bank e) long

-- truncating a list after a bank keeps its first bank
first_bank_kept : (banks : List Parts) (index : ℕ) (c d : Parts) → slice_get banks index ≡ Some d
    → slice_get (take (index + 1) banks ++ c ∷ []) 0 ≡ slice_get banks 0
first_bank_kept [] index c d h = absurd cc
first_bank_kept (x ∷ banks) index c d h =
    ap (λ (n : ℕ). slice_get (take n (x ∷ banks) ++ c ∷ []) 0) (let e : index + 1 ≡ suc index = omega arith in e)

done_edit_renders : (old new : LiveState) (b : Parts) (e : Edit) → EditIs old e answer.Done new
    → RendersAs (is_neutral e ≡ true) old new b (if_edited answer.Done new) []
done_edit_renders old new b e h =
    bank_change_renders (is_neutral e ≡ true) old new b (raw h.0.bank e) (now_edited old.session new.session e h.0)
    (ap (λ (s : History). slice_get s.banks 0) h.0.changed
    ∙ first_bank_kept old.session.banks old.session.index (raw h.0.bank e) h.0.bank h.0.here)
    h.1 (λ x first k. edit_keeps first old.session new.session e x h.0 k)

done_undo_renders : (old new : LiveState) (b : Parts) (comment : List ℕ) → UndoIs old (answer.Moved comment) new
    → RendersAs (Unit {0}) old new b (if_edited (answer.Moved comment) new) []
done_undo_renders old new b comment h =
    let got : (x : Parts) × (slice_get new.session.banks new.session.index ≡ Some x) =
    get_within new.session.banks new.session.index
    (let n : new.session.index + 1 < length new.session.banks = h.0.next in omega arith) in
    bank_change_renders (Unit {0}) old new b got.0 got.1 (sym (ap (λ (s : History). slice_get s.banks 0) h.0.moved)) h.1
    (λ _ first k. undo_keeps first old.session new.session h.0 k)

done_redo_renders : (old new : LiveState) (b : Parts) (comment : List ℕ) → RedoIs old (answer.Moved comment) new
    → RendersAs (Unit {0}) old new b (if_edited (answer.Moved comment) new) []
done_redo_renders old new b comment h =
    let got : (x : Parts) × (slice_get old.session.banks (old.session.index + 1) ≡ Some x) =
    get_within old.session.banks (old.session.index + 1) h.0.next in
    bank_change_renders (Unit {0}) old new b got.0 (ap bank_now h.0.moved ∙ got.1)
    (ap (λ (s : History). slice_get s.banks 0) h.0.moved) h.1
    (λ _ first k. redo_keeps first old.session new.session h.0 k)

started_note_renders : (old new : LiveState) (b : Parts) (n : Numbers) (voices : ℕ) (held : List HeldNote)
    → bank_now old.session ≡ Some b → StartsVoices old n voices held new
    → RendersAs (Unit {0}) old new b (Pressed old.performance.next_handle n ∷ []) []
started_note_renders old new b n voices held here h =
    let same : h.bank ≡ b = (let e : Some h.bank ≡ Some b = sym h.here ∙ here in cc) in
    performed_renders (Unit {0}) old new b (note_started old.performance b n) (Pressed old.performance.next_handle n ∷ []) here
    (ap (λ (s : LiveState). s.session) h.plays)
    (ap (λ (s : LiveState). s.performance) h.plays ∙ ap (λ (c : Parts). note_started old.performance c n) same)
    (performs_press b old.performance n) (λ first. tt)

given_blocks : (b : Parts) (m : ℕ) (ps : List PlayingVoice) (es : List KeyEvent)
    → key_blocks b ps (Given m ∷ es) ≡ block ps m ++ key_blocks b (after_block ps m) es
unfolding key_blocks
given_blocks b m ps es = refl

done_frames_render : (old new : LiveState) (b : Parts) (m : ℕ) → bank_now old.session ≡ Some b → new ≡ after_frames old m
    → RendersAs (Unit {0}) old new b (Given m ∷ []) (block old.performance.player m)
done_frames_render old new b m here e =
    let same : new.performance ≡ frames_given old.performance m = ap (λ (s : LiveState). s.performance) e in
    let notes : NotesGoOn old.performance (frames_given old.performance m) (Given m ∷ []) =
    λ es h. given_on old.performance.given m old.performance.next_handle old.performance.played es h in
    record {
      bank = b;
      here = ap (λ (s : LiveState). bank_now s.session) e ∙ here;
      first_bank = ap (λ (s : LiveState). slice_get s.session.banks 0) e;
      blocks_are =
          λ es.
          given_blocks b m old.performance.player es
          ∙ ap (λ (s : Performance). block old.performance.player m ++ key_blocks b s.player es) (sym same);
      notes_are = subst (λ (u : Performance). NotesGoOn old.performance u (Given m ∷ [])) (sym same) notes;
      kept = λ _ first k. (subst (λ (s : LiveState). AreKept first s.session.banks) (sym e) k, tt);
    }

edit_renders : (old new : LiveState) (b : Parts) (e : Edit) (a : Answer) → bank_now old.session ≡ Some b
    → EditIs old e a new → RendersAs (IsNeutralEdit (asks.Edit e) a) old new b (if_edited a new) []
edit_renders old new b e answer.Done here h = done_edit_renders old new b e h
edit_renders old new b e (answer.Counted k) here h = absurd h
edit_renders old new b e (answer.Moved comment) here h = absurd h
edit_renders old new b e (answer.Measured k l) here h = absurd h
edit_renders old new b e (answer.Refused why) here h = renders_nothing (Unit {0}) old new b here h.1
edit_renders old new b e answer.NotNeutral here h = absurd h
edit_renders old new b e (answer.Fault f comment) here h = absurd h
edit_renders old new b e answer.OutOfMemory here h = absurd h
edit_renders old new b e (answer.WriteFault path i) here h = absurd h
edit_renders old new b e (answer.Rejected path f) here h = absurd h

-- a request whose edit is neutral
sure_renders : (n : Type 0) → n → (old new : LiveState) (b : Parts) (events : List KeyEvent) (frames : List ℤ)
    → RendersAs n old new b events frames → RendersAs (Unit {0}) old new b events frames
sure_renders n x old new b events frames r = record {
  bank = r.bank;
  here = r.here;
  first_bank = r.first_bank;
  blocks_are = r.blocks_are;
  notes_are = r.notes_are;
  kept = λ _ first k. r.kept x first k;
}

neutral_edit_renders : (old new : LiveState) (b : Parts) (e : Edit) (a : Answer) → bank_now old.session ≡ Some b
    → NeutralIs old e a new → RendersAs (Unit {0}) old new b (if_edited a new) []
neutral_edit_renders old new b e answer.Done here h =
    sure_renders (is_neutral e ≡ true) h.0 old new b (if_edited answer.Done new) [] (done_edit_renders old new b e h.1)
neutral_edit_renders old new b e (answer.Counted k) here h = edit_renders old new b e (answer.Counted k) here h.1
neutral_edit_renders old new b e (answer.Moved comment) here h = edit_renders old new b e (answer.Moved comment) here h.1
neutral_edit_renders old new b e (answer.Measured k l) here h = edit_renders old new b e (answer.Measured k l) here h.1
neutral_edit_renders old new b e (answer.Refused why) here h = edit_renders old new b e (answer.Refused why) here h.1
neutral_edit_renders old new b e answer.NotNeutral here h = renders_nothing (Unit {0}) old new b here h.1
neutral_edit_renders old new b e (answer.Fault f comment) here h = edit_renders old new b e (answer.Fault f comment) here h.1
neutral_edit_renders old new b e answer.OutOfMemory here h = edit_renders old new b e answer.OutOfMemory here h.1
neutral_edit_renders old new b e (answer.WriteFault path i) here h =
    edit_renders old new b e (answer.WriteFault path i) here h.1
neutral_edit_renders old new b e (answer.Rejected path f) here h =
    edit_renders old new b e (answer.Rejected path f) here h.1

undo_renders : (old new : LiveState) (b : Parts) (a : Answer) → bank_now old.session ≡ Some b → UndoIs old a new
    → RendersAs (Unit {0}) old new b (if_edited a new) []
undo_renders old new b answer.Done here h = absurd h
undo_renders old new b (answer.Counted k) here h = absurd h
undo_renders old new b (answer.Moved comment) here h = done_undo_renders old new b comment h
undo_renders old new b (answer.Measured k l) here h = absurd h
undo_renders old new b (answer.Refused why) here h = renders_nothing (Unit {0}) old new b here h.1
undo_renders old new b answer.NotNeutral here h = absurd h
undo_renders old new b (answer.Fault f comment) here h = absurd h
undo_renders old new b answer.OutOfMemory here h = absurd h
undo_renders old new b (answer.WriteFault path i) here h = absurd h
undo_renders old new b (answer.Rejected path f) here h = absurd h

redo_renders : (old new : LiveState) (b : Parts) (a : Answer) → bank_now old.session ≡ Some b → RedoIs old a new
    → RendersAs (Unit {0}) old new b (if_edited a new) []
redo_renders old new b answer.Done here h = absurd h
redo_renders old new b (answer.Counted k) here h = absurd h
redo_renders old new b (answer.Moved comment) here h = done_redo_renders old new b comment h
redo_renders old new b (answer.Measured k l) here h = absurd h
redo_renders old new b (answer.Refused why) here h = renders_nothing (Unit {0}) old new b here h.1
redo_renders old new b answer.NotNeutral here h = absurd h
redo_renders old new b (answer.Fault f comment) here h = absurd h
redo_renders old new b answer.OutOfMemory here h = absurd h
redo_renders old new b (answer.WriteFault path i) here h = absurd h
redo_renders old new b (answer.Rejected path f) here h = absurd h

note_renders : (old new : LiveState) (b : Parts) (n : Numbers) (a : Answer) → bank_now old.session ≡ Some b
    → NoteIs old n a new → RendersAs (Unit {0}) old new b (if_pressed old.performance.next_handle n a) []
note_renders old new b n answer.Done here h = absurd h
note_renders old new b n (answer.Counted k) here h = started_note_renders old new b n k old.held here h
note_renders old new b n (answer.Moved comment) here h = absurd h
note_renders old new b n (answer.Measured k l) here h = absurd h
note_renders old new b n (answer.Refused why) here h = absurd h
note_renders old new b n answer.NotNeutral here h = absurd h
note_renders old new b n (answer.Fault f comment) here h = absurd h
note_renders old new b n answer.OutOfMemory here h = renders_nothing (Unit {0}) old new b here h
note_renders old new b n (answer.WriteFault path i) here h = absurd h
note_renders old new b n (answer.Rejected path f) here h = absurd h

press_renders : (old new : LiveState) (b : Parts) (n : Numbers) (a : Answer) → bank_now old.session ≡ Some b
    → PressIs old n a new → RendersAs (Unit {0}) old new b (if_pressed old.performance.next_handle n a) []
press_renders old new b n answer.Done here h = absurd h
press_renders old new b n (answer.Counted k) here h =
    started_note_renders old new b n k (old.held ++ held_by n old.performance.next_handle ∷ []) here h
press_renders old new b n (answer.Moved comment) here h = absurd h
press_renders old new b n (answer.Measured k l) here h = absurd h
press_renders old new b n (answer.Refused why) here h = absurd h
press_renders old new b n answer.NotNeutral here h = absurd h
press_renders old new b n (answer.Fault f comment) here h = absurd h
press_renders old new b n answer.OutOfMemory here h = renders_nothing (Unit {0}) old new b here h
press_renders old new b n (answer.WriteFault path i) here h = absurd h
press_renders old new b n (answer.Rejected path f) here h = absurd h

key_renders : (old new : LiveState) (b : Parts) (held : Option HeldNote) → bank_now old.session ≡ Some b
    → new ≡ after_key old held → RendersAs (Unit {0}) old new b (if_released old.pedals held) []
key_renders old new b None here e = renders_nothing (Unit {0}) old new b here e
key_renders old new b (Some note) here e =
    let sustained : LiveState = record old { held = map (sustained_as note.handle) old.held } in
    let ended : LiveState = record old {
      performance = notes_released old.performance (One note.handle);
      held = held_without note.handle old.held;
    } in
    let P : Bool → Type 0 =
    λ c. new ≡ cond c sustained ended → RendersAs (Unit {0}) old new b (cond c [] (Released (One note.handle) ∷ [])) [] in
    let at : (c : Bool) → P c = elim [
      | true ↦ λ f.
          performed_renders (Unit {0}) old new b old.performance [] here (ap (λ (s : LiveState). s.session) f)
          (ap (λ (s : LiveState). s.performance) f) (performs_nothing b old.performance) (λ first. tt)
      | false ↦ λ f.
          performed_renders (Unit {0}) old new b (notes_released old.performance (One note.handle)) (Released (One note.handle) ∷ []) here
          (ap (λ (s : LiveState). s.session) f) (ap (λ (s : LiveState). s.performance) f)
          (performs_release b old.performance (One note.handle)) (λ first. tt)
    ] in
    at (list_any (is_pedal (pedal_of note)) old.pedals) e

release_renders : (old new : LiveState) (b : Parts) (k : Key) (a : Answer) → bank_now old.session ≡ Some b
    → ReleaseIs old k a new → RendersAs (Unit {0}) old new b (of_key old k a) []
release_renders old new b key answer.Done here h = absurd h
release_renders old new b key (answer.Counted k) here h = key_renders old new b (first_held key old.held) here h.1
release_renders old new b key (answer.Moved comment) here h = absurd h
release_renders old new b key (answer.Measured k l) here h = absurd h
release_renders old new b key (answer.Refused why) here h = absurd h
release_renders old new b key answer.NotNeutral here h = absurd h
release_renders old new b key (answer.Fault f comment) here h = absurd h
release_renders old new b key answer.OutOfMemory here h = absurd h
release_renders old new b key (answer.WriteFault path i) here h = absurd h
release_renders old new b key (answer.Rejected path f) here h = absurd h

-- a pedal that is pressed, or released
pedal_renders : (old new : LiveState) (b : Parts) (p : Pedal) → bank_now old.session ≡ Some b
    → new ≡ record old { pedals = with_pedal p old.pedals } → RendersAs (Unit {0}) old new b [] []
pedal_renders old new b p here e =
    performed_renders (Unit {0}) old new b old.performance [] here (ap (λ (s : LiveState). s.session) e)
    (ap (λ (s : LiveState). s.performance) e) (performs_nothing b old.performance) (λ first. tt)

released_pedal_renders : (old new : LiveState) (b : Parts) (p : Pedal) → bank_now old.session ≡ Some b
    → new ≡ after_pedal old p → RendersAs (Unit {0}) old new b (each_released (sustained_by p old.held)) []
released_pedal_renders old new b p here e =
    performed_renders (Unit {0}) old new b (released_in_turn old.performance (sustained_by p old.held))
    (each_released (sustained_by p old.held)) here (ap (λ (s : LiveState). s.session) e)
    (ap (λ (s : LiveState). s.performance) e) (performs_in_turn b old.performance (sustained_by p old.held))
    (λ first. releases_keep first (sustained_by p old.held))

pedal_on_renders : (old new : LiveState) (b : Parts) (p : Pedal) (a : Answer) → bank_now old.session ≡ Some b
    → PedalOnIs old p a new → RendersAs (Unit {0}) old new b (of_pedal old (record { position = position.On; pedal = p }) a) []
pedal_on_renders old new b p answer.Done here h = pedal_renders old new b p here h
pedal_on_renders old new b p (answer.Counted k) here h = absurd h
pedal_on_renders old new b p (answer.Moved comment) here h = absurd h
pedal_on_renders old new b p (answer.Measured k l) here h = absurd h
pedal_on_renders old new b p (answer.Refused why) here h = absurd h
pedal_on_renders old new b p answer.NotNeutral here h = absurd h
pedal_on_renders old new b p (answer.Fault f comment) here h = absurd h
pedal_on_renders old new b p answer.OutOfMemory here h = renders_nothing (Unit {0}) old new b here h
pedal_on_renders old new b p (answer.WriteFault path i) here h = absurd h
pedal_on_renders old new b p (answer.Rejected path f) here h = absurd h

pedal_off_renders : (old new : LiveState) (b : Parts) (p : Pedal) (a : Answer) → bank_now old.session ≡ Some b
    → PedalOffIs old p a new → RendersAs (Unit {0}) old new b (of_pedal old (record { position = position.Off; pedal = p }) a) []
pedal_off_renders old new b p answer.Done here h = absurd h
pedal_off_renders old new b p (answer.Counted k) here h = released_pedal_renders old new b p here h.1
pedal_off_renders old new b p (answer.Moved comment) here h = absurd h
pedal_off_renders old new b p (answer.Measured k l) here h = absurd h
pedal_off_renders old new b p (answer.Refused why) here h = absurd h
pedal_off_renders old new b p answer.NotNeutral here h = absurd h
pedal_off_renders old new b p (answer.Fault f comment) here h = absurd h
pedal_off_renders old new b p answer.OutOfMemory here h = absurd h
pedal_off_renders old new b p (answer.WriteFault path i) here h = absurd h
pedal_off_renders old new b p (answer.Rejected path f) here h = absurd h

moved_pedal_renders : (old new : LiveState) (b : Parts) (at : PedalPosition) (p : Pedal) (a : Answer)
    → bank_now old.session ≡ Some b → PedalMovesTo at old p a new
    → RendersAs (Unit {0}) old new b (of_pedal old (record { position = at; pedal = p }) a) []
moved_pedal_renders old new b position.On p a here h = pedal_on_renders old new b p a here h
moved_pedal_renders old new b position.Off p a here h = pedal_off_renders old new b p a here h

silence_renders : (old new : LiveState) (b : Parts) (a : Answer) → bank_now old.session ≡ Some b
    → SilenceIs old a new → RendersAs (Unit {0}) old new b (if_silenced a) []
silence_renders old new b answer.Done here h = absurd h
silence_renders old new b (answer.Counted k) here h =
    performed_renders (Unit {0}) old new b (notes_released old.performance All) (Released All ∷ []) here
    (ap (λ (s : LiveState). s.session) h.1) (ap (λ (s : LiveState). s.performance) h.1)
    (performs_release b old.performance All) (λ first. tt)
silence_renders old new b (answer.Moved comment) here h = absurd h
silence_renders old new b (answer.Measured k l) here h = absurd h
silence_renders old new b (answer.Refused why) here h = absurd h
silence_renders old new b answer.NotNeutral here h = absurd h
silence_renders old new b (answer.Fault f comment) here h = absurd h
silence_renders old new b answer.OutOfMemory here h = absurd h
silence_renders old new b (answer.WriteFault path i) here h = absurd h
silence_renders old new b (answer.Rejected path f) here h = absurd h

stop_renders : (old new : LiveState) (b : Parts) (a : Answer) → bank_now old.session ≡ Some b
    → StopIs old a new → RendersAs (Unit {0}) old new b (if_stopped a) []
stop_renders old new b answer.Done here h =
    performed_renders (Unit {0}) old new b (all_stopped old.performance) (Stopped ∷ []) here (ap (λ (s : LiveState). s.session) h)
    (ap (λ (s : LiveState). s.performance) h) (performs_stop b old.performance) (λ first. tt)
stop_renders old new b (answer.Counted k) here h = absurd h
stop_renders old new b (answer.Moved comment) here h = absurd h
stop_renders old new b (answer.Measured k l) here h = absurd h
stop_renders old new b (answer.Refused why) here h = absurd h
stop_renders old new b answer.NotNeutral here h = absurd h
stop_renders old new b (answer.Fault f comment) here h = absurd h
stop_renders old new b answer.OutOfMemory here h = absurd h
stop_renders old new b (answer.WriteFault path i) here h = absurd h
stop_renders old new b (answer.Rejected path f) here h = absurd h

frames_render : (old new : LiveState) (b : Parts) (m : ℕ) (a : Answer) → bank_now old.session ≡ Some b
    → FramesAre old m a new → RendersAs (Unit {0}) old new b (if_given m a) (block_if old m a)
frames_render old new b m answer.Done here h = done_frames_render old new b m here h
frames_render old new b m (answer.Counted k) here h = absurd h
frames_render old new b m (answer.Moved comment) here h = absurd h
frames_render old new b m (answer.Measured k l) here h = absurd h
frames_render old new b m (answer.Refused why) here h = absurd h
frames_render old new b m answer.NotNeutral here h = absurd h
frames_render old new b m (answer.Fault f comment) here h = absurd h
frames_render old new b m answer.OutOfMemory here h = absurd h
frames_render old new b m (answer.WriteFault path i) here h = absurd h
frames_render old new b m (answer.Rejected path f) here h = absurd h

show_renders : (old new : LiveState) (b : Parts) (a : Answer) → bank_now old.session ≡ Some b → ShowIs old a new
    → RendersAs (Unit {0}) old new b [] []
show_renders old new b answer.Done here h = renders_nothing (Unit {0}) old new b here h
show_renders old new b (answer.Counted k) here h = absurd h
show_renders old new b (answer.Moved comment) here h = absurd h
show_renders old new b (answer.Measured k l) here h = absurd h
show_renders old new b (answer.Refused why) here h = absurd h
show_renders old new b answer.NotNeutral here h = absurd h
show_renders old new b (answer.Fault f comment) here h = absurd h
show_renders old new b answer.OutOfMemory here h = absurd h
show_renders old new b (answer.WriteFault path i) here h = absurd h
show_renders old new b (answer.Rejected path f) here h = absurd h

voices_render : (old new : LiveState) (b : Parts) (a : Answer) → bank_now old.session ≡ Some b → VoicesAre old a new
    → RendersAs (Unit {0}) old new b [] []
voices_render old new b answer.Done here h = absurd h
voices_render old new b (answer.Counted k) here h = absurd h
voices_render old new b (answer.Moved comment) here h = absurd h
voices_render old new b (answer.Measured k l) here h = renders_nothing (Unit {0}) old new b here h.2
voices_render old new b (answer.Refused why) here h = absurd h
voices_render old new b answer.NotNeutral here h = absurd h
voices_render old new b (answer.Fault f comment) here h = absurd h
voices_render old new b answer.OutOfMemory here h = absurd h
voices_render old new b (answer.WriteFault path i) here h = absurd h
voices_render old new b (answer.Rejected path f) here h = absurd h

meter_renders : (old new : LiveState) (b : Parts) (a : Answer) → bank_now old.session ≡ Some b → MeterIs old a new
    → RendersAs (Unit {0}) old new b [] []
meter_renders old new b answer.Done here h = absurd h
meter_renders old new b (answer.Counted k) here h = absurd h
meter_renders old new b (answer.Moved comment) here h = absurd h
meter_renders old new b (answer.Measured k l) here h =
    performed_renders (Unit {0}) old new b old.performance [] here (ap (λ (s : LiveState). s.session) h.2)
    (ap (λ (s : LiveState). s.performance) h.2) (performs_nothing b old.performance) (λ first. tt)
meter_renders old new b (answer.Refused why) here h = absurd h
meter_renders old new b answer.NotNeutral here h = absurd h
meter_renders old new b (answer.Fault f comment) here h = absurd h
meter_renders old new b answer.OutOfMemory here h = absurd h
meter_renders old new b (answer.WriteFault path i) here h = absurd h
meter_renders old new b (answer.Rejected path f) here h = absurd h

record_renders : (old new : LiveState) (b : Parts) (at : List ℕ) (a : Answer) → bank_now old.session ≡ Some b
    → RecordIs old at a new → RendersAs (Unit {0}) old new b [] []
record_renders old new b at answer.Done here h = absurd h
record_renders old new b at (answer.Counted k) here h = renders_nothing (Unit {0}) old new b here h.1
record_renders old new b at (answer.Moved comment) here h = absurd h
record_renders old new b at (answer.Measured k l) here h = absurd h
record_renders old new b at (answer.Refused why) here h = absurd h
record_renders old new b at answer.NotNeutral here h = absurd h
record_renders old new b at (answer.Fault f comment) here h = absurd h
record_renders old new b at answer.OutOfMemory here h = renders_nothing (Unit {0}) old new b here h
record_renders old new b at (answer.WriteFault path i) here h = renders_nothing (Unit {0}) old new b here h.1
record_renders old new b at (answer.Rejected path f) here h = renders_nothing (Unit {0}) old new b here h.1

save_renders : (old new : LiveState) (b : Parts) (paths : Paths) (a : Answer) → bank_now old.session ≡ Some b
    → SaveIs old paths a new → RendersAs (Unit {0}) old new b [] []
save_renders old new b paths answer.Done here h = renders_nothing (Unit {0}) old new b here h.1
save_renders old new b paths (answer.Counted k) here h = absurd h
save_renders old new b paths (answer.Moved comment) here h = absurd h
save_renders old new b paths (answer.Measured k l) here h = absurd h
save_renders old new b paths (answer.Refused why) here h = absurd h
save_renders old new b paths answer.NotNeutral here h = absurd h
save_renders old new b paths (answer.Fault f comment) here h = absurd h
save_renders old new b paths answer.OutOfMemory here h = renders_nothing (Unit {0}) old new b here h
save_renders old new b paths (answer.WriteFault path i) here h = renders_nothing (Unit {0}) old new b here h.1
save_renders old new b paths (answer.Rejected path f) here h = renders_nothing (Unit {0}) old new b here h.1

request_renders : (old new : LiveState) (b : Parts) (r : Request) (a : Answer) → bank_now old.session ≡ Some b
    → RequestIs old r a new → RendersAs (IsNeutralEdit r a) old new b (events_of old r a new) (frames_of old r a)
request_renders old new b (asks.Edit e) a here h = edit_renders old new b e a here h
request_renders old new b (asks.Neutral e) a here h = neutral_edit_renders old new b e a here h
request_renders old new b asks.Undo a here h = undo_renders old new b a here h
request_renders old new b asks.Redo a here h = redo_renders old new b a here h
request_renders old new b (asks.Note n) a here h = note_renders old new b n a here h
request_renders old new b (asks.Press n) a here h = press_renders old new b n a here h
request_renders old new b (asks.Release k) a here h = release_renders old new b k a here h
request_renders old new b (asks.Pedal m) a here h = moved_pedal_renders old new b m.position m.pedal a here h
request_renders old new b asks.Silence a here h = silence_renders old new b a here h
request_renders old new b asks.Stop a here h = stop_renders old new b a here h
request_renders old new b (asks.Frames m) a here h = frames_render old new b m a here h
request_renders old new b (asks.Record path) a here h = record_renders old new b path a here h
request_renders old new b (asks.Save paths) a here h = save_renders old new b paths a here h
request_renders old new b asks.Voices a here h = voices_render old new b a here h
request_renders old new b asks.Meter a here h = meter_renders old new b a here h
request_renders old new b asks.Show a here h = show_renders old new b a here h
request_renders old new b asks.Help a here h = show_renders old new b a here h
request_renders old new b asks.Quit a here h = show_renders old new b a here h

-- ---- one line

renders_equal : (n : Type 0) (old new : LiveState) (b : Parts) (events more : List KeyEvent) (frames others : List ℤ) → more ≡ events
    → others ≡ frames → RendersAs n old new b events frames → RendersAs n old new b more others
renders_equal n old new b events more frames others e f h =
    subst (λ (xs : List KeyEvent). RendersAs n old new b xs others) (sym e)
    (subst (λ (ys : List ℤ). RendersAs n old new b events ys) (sym f) h)

abbrev LineRendersAs : RequestResult → LiveState → Option Answer → LiveState → Parts → Type 0
LineRendersAs x old oa new b =
    RendersAs (DoesNeutral x oa) old new b (answered x oa (λ r a. events_of old r a new)) (answered x oa (frames_of old))

out_of_memory_renders : (x : RequestResult) (old new : LiveState) (b : Parts) → bank_now old.session ≡ Some b → new ≡ old
    → LineRendersAs x old (Some answer.OutOfMemory) new b
out_of_memory_renders (Ok None) old new b here e = renders_nothing (Unit {0}) old new b here e
out_of_memory_renders (Ok (Some r)) old new b here e =
    let none = nothing_done old r new in
    let n : Type 0 = IsNeutralEdit r answer.OutOfMemory in
    renders_equal n old new b [] _ [] _ none.2 none.1 (renders_nothing n old new b here e)
out_of_memory_renders (Err f) old new b here e = renders_nothing (Unit {0}) old new b here e

line_renders : (line : List ℕ) (x : RequestResult) (old new : LiveState) (oa : Option Answer) (b : Parts) → bank_now old.session ≡ Some b
    → LineIs line x old oa new → LineRendersAs x old oa new b
line_renders line x old new None b here h =
    subst (λ (y : RequestResult). LineRendersAs y old None new b) (sym h.0) (renders_nothing (Unit {0}) old new b here h.1)
line_renders line x old new (Some a) b here (inr h) =
    subst (λ (c : Answer). LineRendersAs x old (Some c) new b) (sym h.0) (out_of_memory_renders x old new b here h.1)
line_renders line (Ok None) old new (Some a) b here (inl h) = absurd h
line_renders line (Ok (Some r)) old new (Some a) b here (inl h) = request_renders old new b r a here h
line_renders line (Err f) old new (Some a) b here (inl h) = renders_nothing (Unit {0}) old new b here h.1

-- ---- all lines

no_events_render : (b : Parts) (ps : List PlayingVoice) → [] ≡ key_blocks b ps []
unfolding key_blocks
no_events_render b ps = refl

turns_render : (ts : List Turn) (s last : LiveState) (b : Parts) → bank_now s.session ≡ Some b → AreTurns s ts last
    → flat_map frames_in ts ≡ key_blocks b s.performance.player (flat_map events_in ts)
turns_render [] s last b here h = no_events_render b s.performance.player
turns_render (t ∷ ts) s last b here h =
    let k : RendersAs (DoesNeutral (request_in t) t.answer) t.old t.new b (events_in t) (frames_in t) =
    line_renders t.line _ t.old t.new t.answer b (ap (λ (u : LiveState). bank_now u.session) h.0 ∙ here) h.1 in
    ap (λ (xs : List ℤ). frames_in t ++ xs) (turns_render ts t.new last k.bank k.here h.2)
    ∙ sym (k.blocks_are (flat_map events_in ts))
    ∙ ap (λ (u : LiveState). key_blocks b u.performance.player (flat_map events_in (t ∷ ts))) h.0

pub first_stays : (ts : List Turn) (s last : LiveState) (b : Parts) → bank_now s.session ≡ Some b → AreTurns s ts last
    → slice_get last.session.banks 0 ≡ slice_get s.session.banks 0
first_stays [] s last b here h = ap (λ (u : LiveState). slice_get u.session.banks 0) h
first_stays (t ∷ ts) s last b here h =
    let k : RendersAs (DoesNeutral (request_in t) t.answer) t.old t.new b (events_in t) (frames_in t) =
    line_renders t.line _ t.old t.new t.answer b (ap (λ (u : LiveState). bank_now u.session) h.0 ∙ here) h.1 in
    first_stays ts t.new last k.bank k.here h.2 ∙ k.first_bank ∙ ap (λ (u : LiveState). slice_get u.session.banks 0) h.0

pub turns_keep : (ts : List Turn) (s last : LiveState) (b first : Parts) → bank_now s.session ≡ Some b → AreTurns s ts last
    → DoNeutral ts → AreKept first s.session.banks
    → AreKept first last.session.banks × EditsKeep first (flat_map events_in ts)
turns_keep [] s last b first here h neutral kept =
    (subst (λ (u : LiveState). AreKept first u.session.banks) (sym h) kept, tt)
turns_keep (t ∷ ts) s last b first here h neutral kept =
    let k : RendersAs (DoesNeutral (request_in t) t.answer) t.old t.new b (events_in t) (frames_in t) =
    line_renders t.line _ t.old t.new t.answer b (ap (λ (u : LiveState). bank_now u.session) h.0 ∙ here) h.1 in
    let one = k.kept neutral.0 first (subst (λ (u : LiveState). AreKept first u.session.banks) (sym h.0) kept) in
    let more = turns_keep ts t.new last k.bank first k.here h.2 neutral.1 one.0 in
    (more.0, edits_keep_both first (events_in t) (flat_map events_in ts) one.1 more.1)

bytes_of_frames : (ts : List Turn) → flat_map bytes_in ts ≡ flat_map sample_bytes (flat_map frames_in ts)
bytes_of_frames [] = refl
bytes_of_frames (t ∷ ts) =
    ap (λ (xs : List ℕ). bytes_in t ++ xs) (bytes_of_frames ts)
    ∙ sym (flat_map-append sample_bytes (frames_in t) (flat_map frames_in ts))

pub frames_follow_events : (b : Parts) (ts : List Turn) (last : LiveState) → AreTurns (started_with b) ts last
    → flat_map bytes_in ts ≡ flat_map sample_bytes (heard_keys b (flat_map events_in ts))
frames_follow_events b ts last h =
    bytes_of_frames ts
    ∙ ap (flat_map sample_bytes)
    (turns_render ts (started_with b) last b refl h ∙ presses_heard b (flat_map events_in ts))

-- ---- the notes that were played

notes_go_on : (ts : List Turn) (s last : LiveState) (b : Parts) → bank_now s.session ≡ Some b → AreTurns s ts last
    → Fit s.performance.given s.performance.next_handle s.performance.played (flat_map events_in ts)
    → listing s.performance.given s.performance.played (flat_map events_in ts)
    ≡ listing last.performance.given last.performance.played []
notes_go_on [] s last b here h fit =
    ap (λ (u : LiveState). listing u.performance.given u.performance.played []) (sym h)
notes_go_on (t ∷ ts) s last b here h fit =
    let k : RendersAs (DoesNeutral (request_in t) t.answer) t.old t.new b (events_in t) (frames_in t) =
    line_renders t.line _ t.old t.new t.answer b (ap (λ (u : LiveState). bank_now u.session) h.0 ∙ here) h.1 in
    let all : List KeyEvent = flat_map events_in (t ∷ ts) in
    let here_fit : Fit t.old.performance.given t.old.performance.next_handle t.old.performance.played all =
    subst (λ (u : LiveState). Fit u.performance.given u.performance.next_handle u.performance.played all) (sym h.0) fit in
    let one = k.notes_are (flat_map events_in ts) here_fit in
    ap (λ (u : LiveState). listing u.performance.given u.performance.played all) (sym h.0)
    ∙ one.same
    ∙ notes_go_on ts t.new last k.bank k.here h.2 one.fit

fit_at_first : (es : List KeyEvent) → CanBeListed es → Fit 0 0 [] es
fit_at_first es can =
    let frames = can.frames in
    let notes = can.notes in
    record { numbered = refl; frames = omega (arith, frames); notes = omega (arith, notes) }

pub recordings_follow_events : (b : Parts) (ts : List Turn) (last : LiveState) → AreTurns (started_with b) ts last
    → CanBeListed (flat_map events_in ts)
    → recorded_now last.performance ≡ recorded (flat_map events_in ts)
recordings_follow_events b ts last h can =
    sym
    (notes_go_on ts (started_with b) last b refl h (fit_at_first (flat_map events_in ts) can)
    ∙ listing_last last.performance.given last.performance.played)

pub recordings_render : (b : Parts) (ts : List Turn) (last : LiveState) → AreTurns (started_with b) ts last
    → CanBeListed (flat_map events_in ts) → HasNoStop (flat_map events_in ts)
    → LeaveAlike b (as_notes (flat_map events_in ts))
    → flat_map bytes_in ts
    ≡ flat_map sample_bytes (first_frames b (recorded_now last.performance) (key_frames (flat_map events_in ts)))
recordings_render b ts last h can goes alike =
    let es : List KeyEvent = flat_map events_in ts in
    frames_follow_events b ts last h
    ∙ ap (flat_map sample_bytes)
    (recordings_heard b es goes alike
    ∙ ap (λ (ns : List Numbers). first_frames b ns (key_frames es)) (sym (recordings_follow_events b ts last h can)))
