-- The session after a request, by its answer, and what the request writes.
use Rattle.std.specs.Prelude.{◌≡◌, ◌⊎◌, ◌≤◌, ◌+◌, ◌*◌, min, ℕ, ℤ, Bool, true, false, cond, List, [], ◌∷◌}
use Rattle.std.specs.Prelude.{length, take, filter, map, slice_get, Option, Some, None, not, ◌==◌, ◌&&◌, ◌++◌}
use Rattle.std.specs.List.{flat_map, find, list_any}
use Rattle.std.specs.Io.KnownBytes.{Appends}
use Rattle.std.specs.Option.{option_map_or}
use Rattle.bank_parts.specs.declared.parts.Parts.{Parts}
use Rattle.bank_format.specs.declared.fault.Counts.{Counts}
use Rattle.edit_forms.specs.declared.edit.Edit.{Edit}
use Rattle.inverse_edits.specs.Histories.{IsHistory, bank_now, new_history, IsEdited, IsRefusalNow, MovesForward}
use Rattle.inverse_edits.specs.Histories.{IsUndoFailure, IsRedoFailure, undo_edits}
use Rattle.sound_neutral_edits.specs.Neutral.{is_neutral}
use Rattle.script_notes.specs.Notes.{Numbers}
use Rattle.mixer.specs.StartFrames.{note_voices}
use Rattle.mixer.specs.declared.playing.Release.TheVariants.{One, All}
use Rattle.mixer.specs.Events.{block}
use Rattle.mixer.specs.Pressed.{KeyEvent, Edited, Pressed, Released, Stopped, Given}
use Rattle.live_lines.specs.Comments.{IsShown, edit_line}
use Rattle.live_lines.specs.declared.answer.Answer.{Answer}
use Rattle.live_lines.specs.declared.answer.Answer.TheVariants as answer
use Rattle.live_lines.specs.declared.pedal.Pedal.{Pedal}
use Rattle.live_lines.specs.declared.pedal.PedalMove.{PedalMove}
use Rattle.live_lines.specs.declared.pedal.PedalPosition.{PedalPosition}
use Rattle.live_lines.specs.declared.pedal.PedalPosition.TheVariants as position
use Rattle.live_lines.specs.declared.request.Key.{Key}
use Rattle.live_lines.specs.declared.request.Request.{Request}
use Rattle.live_lines.specs.declared.request.Request.TheVariants as asks
use Rattle.live_lines.specs.declared.help.TheConstants.{HELP}
use Rattle.live_lines.specs.declared.paths.Paths.{Paths}
use Rattle.live_sessions.specs.declared.held.HeldNote.{HeldNote}
use Rattle.live_sessions.specs.declared.live.LiveState.{LiveState}
use Rattle.wave_file.specs.Wave.{sample_bytes}
use Rattle.live_sessions.specs.declared.fault.LiveFault.{LiveFault}
use Rattle.live_sessions.specs.declared.fault.LiveFault.TheVariants as fault
use Rattle.live_sessions.specs.declared.saving.SessionFiles.{SessionFiles}
use Rattle.live_sessions.specs.AnswerTexts.{listing_now}
use Rattle.live_sessions.specs.FileSaves.{FilesAfterSave, FilesAfterRecord}
use Rattle.live_sessions.specs.Meters.{silent, metered}
use Rattle.live_sessions.specs.Performances.{most, is_sustained_by, note_started, notes_released, all_stopped, frames_given}
use Rattle.live_sessions.specs.Performances.{released_in_turn}
use Rattle.live_sessions.specs.Streams.{Streams, SavesNothing}

-- a new session with a bank: no edit, no voice and no frame yet
abbrev pub started_with : Parts → LiveState
started_with b = record {
  performance = record { player = []; played = []; given = 0; next_handle = 0 };
  session = new_history b;
  held = [];
  pedals = [];
  meter = silent;
}

-- ---- the session after a request

-- only the bank and its history may have changed
abbrev pub OnlyTheBank : LiveState → LiveState → Type 0
OnlyTheBank old new = new ≡ record old { session = new.session }

-- the bank accepts the edit, or refuses it and nothing changes
abbrev pub EditIs : LiveState → Edit → Answer → LiveState → Type 0
EditIs old e answer.Done new = IsEdited old.session new.session e × OnlyTheBank old new
EditIs old e (answer.Refused why) new = IsRefusalNow old.session e why × (new ≡ old)
EditIs old e other new = ⊥

-- an edit that is not neutral is refused; a neutral edit is done as any edit
abbrev pub NeutralIs : LiveState → Edit → Answer → LiveState → Type 0
NeutralIs old e answer.NotNeutral new = (is_neutral e ≡ false) × (new ≡ old)
NeutralIs old e other new = (is_neutral e ≡ true) × EditIs old e other new

-- a comment shows the last edit of a list
pub record ShowsLast (es : List Edit) (comment : List ℕ) : Type 0 where
  pub before : List Edit
  pub edit : Edit
  pub last : es ≡ before ++ edit ∷ []
  pub is : IsShown (edit_line edit) comment

-- the bank before the last edit; the comment shows the inverse of that edit
abbrev pub UndoIs : LiveState → Answer → LiveState → Type 0
UndoIs old (answer.Moved comment) new =
    MovesForward new.session old.session × OnlyTheBank old new × ShowsLast (undo_edits old.session) comment
UndoIs old (answer.Refused why) new = IsUndoFailure old.session why × (new ≡ old)
UndoIs old other new = ⊥

-- a comment shows the edit at a position
pub record ShowsAt (es : List Edit) (index : ℕ) (comment : List ℕ) : Type 0 where
  pub edit : Edit
  pub here : slice_get es index ≡ Some edit
  pub is : IsShown (edit_line edit) comment

-- the bank after the edit undone last, which the comment shows
abbrev pub RedoIs : LiveState → Answer → LiveState → Type 0
RedoIs old (answer.Moved comment) new =
    MovesForward old.session new.session × OnlyTheBank old new
    × ShowsAt old.session.edits old.session.index comment
RedoIs old (answer.Refused why) new = IsRedoFailure old.session why × (new ≡ old)
RedoIs old other new = ⊥

-- a note starts all its voices on the current bank, at the next frame; their count saturates
pub record StartsVoices (old : LiveState) (n : Numbers) (voices : ℕ) (held : List HeldNote) (new : LiveState) : Type 0 where
  pub bank : Parts
  pub here : bank_now old.session ≡ Some bank
  pub counted : voices ≡ min (length (note_voices bank n)) most
  pub plays : new ≡ record old { performance = note_started old.performance bank n; held = held }

abbrev pub NoteIs : LiveState → Numbers → Answer → LiveState → Type 0
NoteIs old n (answer.Counted voices) new = StartsVoices old n voices old.held new
NoteIs old n answer.OutOfMemory new = new ≡ old
NoteIs old n other new = ⊥

-- the numbers of a pressed note's key
abbrev pub key_of : Numbers → Key
key_of n = record { bank = n.bank; number = n.number; key = n.key }

-- a note that its key holds
abbrev pub held_by : Numbers → ℕ → HeldNote
held_by n handle = record { key = key_of n; handle = handle; is_sustained = false }

-- a pressed note starts like any, and is held
abbrev pub PressIs : LiveState → Numbers → Answer → LiveState → Type 0
PressIs old n (answer.Counted voices) new =
    StartsVoices old n voices (old.held ++ held_by n old.performance.next_handle ∷ []) new
PressIs old n answer.OutOfMemory new = new ≡ old
PressIs old n other new = ⊥

-- the key holds the note
abbrev pub is_held_by : Key → HeldNote → Bool
is_held_by k h =
    not h.is_sustained && (h.key.bank == k.bank && (h.key.number == k.number && h.key.key == k.key))

-- the note that was pressed first of those that a key holds
abbrev pub first_held : Key → List HeldNote → Option HeldNote
first_held k hs = find (is_held_by k) hs

-- the notes without that of a handle
abbrev pub held_without : ℕ → List HeldNote → List HeldNote
held_without handle hs = filter (λ (h : HeldNote). not (h.handle == handle)) hs

-- the note is left to its pedal, if it has the handle
unfoldable pub sustained_as : ℕ → HeldNote → HeldNote
sustained_as handle h = cond (h.handle == handle) (record h { is_sustained = true }) h

-- both are the pedal of one preset
abbrev pub is_pedal : Pedal → Pedal → Bool
is_pedal one other = one.bank == other.bank && one.number == other.number

-- the pedal of the note's preset
abbrev pub pedal_of : HeldNote → Pedal
pedal_of h = record { bank = h.key.bank; number = h.key.number }

-- the session after a release of the key of this note: its pedal holds the note, or the note ends
abbrev pub after_release_of : LiveState → HeldNote → LiveState
after_release_of old h =
    cond (list_any (is_pedal (pedal_of h)) old.pedals)
    (record old { held = map (sustained_as h.handle) old.held })
    (record old {
      performance = notes_released old.performance (One h.handle);
      held = held_without h.handle old.held;
    })

-- the same, if there is a note
abbrev pub after_key : LiveState → Option HeldNote → LiveState
after_key old None = old
after_key old (Some h) = after_release_of old h

abbrev pub ReleaseIs : LiveState → Key → Answer → LiveState → Type 0
ReleaseIs old k (answer.Counted n) new =
    (n ≡ option_map_or (λ h. 1) (first_held k old.held) 0) × (new ≡ after_key old (first_held k old.held))
ReleaseIs old k other new = ⊥

-- the pressed pedals with one more, each once, and without one
abbrev pub with_pedal : Pedal → List Pedal → List Pedal
with_pedal p ps = cond (list_any (is_pedal p) ps) ps (ps ++ p ∷ [])

abbrev pub without_pedal : Pedal → List Pedal → List Pedal
without_pedal p ps = filter (λ (q : Pedal). not (is_pedal p q)) ps

abbrev pub PedalOnIs : LiveState → Pedal → Answer → LiveState → Type 0
PedalOnIs old p answer.Done new = new ≡ record old { pedals = with_pedal p old.pedals }
PedalOnIs old p answer.OutOfMemory new = new ≡ old
PedalOnIs old p other new = ⊥

-- the notes that only the pedal holds, and the others
abbrev pub sustained_by : Pedal → List HeldNote → List HeldNote
sustained_by p hs = filter (is_sustained_by p) hs

abbrev pub held_but_by : Pedal → List HeldNote → List HeldNote
held_but_by p hs = filter (λ (h : HeldNote). not (is_sustained_by p h)) hs

-- the notes that only the pedal holds end
abbrev pub after_pedal : LiveState → Pedal → LiveState
after_pedal old p = record old {
  performance = released_in_turn old.performance (sustained_by p old.held);
  held = held_but_by p old.held;
  pedals = without_pedal p old.pedals;
}

abbrev pub PedalOffIs : LiveState → Pedal → Answer → LiveState → Type 0
PedalOffIs old p (answer.Counted n) new = (n ≡ length (sustained_by p old.held)) × (new ≡ after_pedal old p)
PedalOffIs old p other new = ⊥

abbrev pub PedalMovesTo : PedalPosition → LiveState → Pedal → Answer → LiveState → Type 0
PedalMovesTo position.On old p a new = PedalOnIs old p a new
PedalMovesTo position.Off old p a new = PedalOffIs old p a new

abbrev pub PedalIs : LiveState → PedalMove → Answer → LiveState → Type 0
PedalIs old m a new = PedalMovesTo m.position old m.pedal a new

-- all notes and pedals are released
abbrev pub SilenceIs : LiveState → Answer → LiveState → Type 0
SilenceIs old (answer.Counted n) new =
    (n ≡ length old.held)
    × (new ≡ record old { performance = notes_released old.performance All; held = []; pedals = [] })
SilenceIs old other new = ⊥

-- all voices end at once
abbrev pub StopIs : LiveState → Answer → LiveState → Type 0
StopIs old answer.Done new = new ≡ record old { performance = all_stopped old.performance; held = []; pedals = [] }
StopIs old other new = ⊥

-- the session after `m` frames
abbrev pub after_frames : LiveState → ℕ → LiveState
after_frames old m = record old {
  performance = frames_given old.performance m;
  meter = metered old.meter (block old.performance.player m);
}

abbrev pub FramesAre : LiveState → ℕ → Answer → LiveState → Type 0
FramesAre old m answer.Done new = new ≡ after_frames old m
FramesAre old m other new = ⊥

-- A recording never changes the session; a write fault or a rejected output has its path.
abbrev pub RecordIs : LiveState → List ℕ → Answer → LiveState → Type 0
RecordIs old path (answer.Counted n) new = (n ≡ length old.performance.played) × (new ≡ old)
RecordIs old path answer.OutOfMemory new = new ≡ old
RecordIs old path (answer.WriteFault p written) new = (p ≡ path) × (new ≡ old)
RecordIs old path (answer.Rejected p fault) new = (p ≡ path) × (new ≡ old)
RecordIs old path other new = ⊥

-- how many voices sound at the next frame, and how many notes are held
abbrev pub VoicesAre : LiveState → Answer → LiveState → Type 0
VoicesAre old (answer.Measured sounding held) new =
    (sounding ≡ length old.performance.player) × (held ≡ length old.held) × (new ≡ old)
VoicesAre old other new = ⊥

-- the peak and the clipped frames since the last time
abbrev pub MeterIs : LiveState → Answer → LiveState → Type 0
MeterIs old (answer.Measured peak clipped) new =
    (peak ≡ old.meter.peak) × (clipped ≡ old.meter.clipped) × (new ≡ record old { meter = silent })
MeterIs old other new = ⊥

-- A save never changes the session. The saved script undoes the history; a write fault or a rejected output has one of
-- the paths.
abbrev pub SaveIs : LiveState → Paths → Answer → LiveState → Type 0
SaveIs old paths answer.Done new = IsHistory old.session × (new ≡ old)
SaveIs old paths answer.OutOfMemory new = new ≡ old
SaveIs old paths (answer.WriteFault path written) new = ((path ≡ paths.out) ⊎ (path ≡ paths.undo)) × (new ≡ old)
SaveIs old paths (answer.Rejected path fault) new = ((path ≡ paths.out) ⊎ (path ≡ paths.undo)) × (new ≡ old)
SaveIs old paths other new = ⊥

abbrev pub ShowIs : LiveState → Answer → LiveState → Type 0
ShowIs old answer.Done new = new ≡ old
ShowIs old other new = ⊥

-- the answer to a request, and the session after it
abbrev pub RequestIs : LiveState → Request → Answer → LiveState → Type 0
RequestIs old (asks.Edit e) a new = EditIs old e a new
RequestIs old (asks.Neutral e) a new = NeutralIs old e a new
RequestIs old asks.Undo a new = UndoIs old a new
RequestIs old asks.Redo a new = RedoIs old a new
RequestIs old (asks.Note n) a new = NoteIs old n a new
RequestIs old (asks.Press n) a new = PressIs old n a new
RequestIs old (asks.Release k) a new = ReleaseIs old k a new
RequestIs old (asks.Pedal m) a new = PedalIs old m a new
RequestIs old asks.Silence a new = SilenceIs old a new
RequestIs old asks.Stop a new = StopIs old a new
RequestIs old (asks.Frames m) a new = FramesAre old m a new
RequestIs old (asks.Record path) a new = RecordIs old path a new
RequestIs old (asks.Save paths) a new = SaveIs old paths a new
RequestIs old asks.Voices a new = VoicesAre old a new
RequestIs old asks.Meter a new = MeterIs old a new
RequestIs old asks.Show a new = ShowIs old a new
RequestIs old asks.Help a new = ShowIs old a new
RequestIs old asks.Quit a new = ShowIs old a new

-- ---- what a request writes

-- the bank after an edit, an undo or a redo that is done
abbrev pub if_edited : Answer → LiveState → List KeyEvent
if_edited answer.Done new = option_map_or (λ (b : Parts). Edited b ∷ []) (bank_now new.session) []
if_edited (answer.Moved comment) new = option_map_or (λ (b : Parts). Edited b ∷ []) (bank_now new.session) []
if_edited other new = []

abbrev pub if_pressed : ℕ → Numbers → Answer → List KeyEvent
if_pressed handle n (answer.Counted voices) = Pressed handle n ∷ []
if_pressed handle n other = []

-- the note ends, unless its pedal holds it
abbrev pub if_released : List Pedal → Option HeldNote → List KeyEvent
if_released pedals None = []
if_released pedals (Some h) = cond (list_any (is_pedal (pedal_of h)) pedals) [] (Released (One h.handle) ∷ [])

-- what a key releases
abbrev pub of_key : LiveState → Key → Answer → List KeyEvent
of_key old k (answer.Counted n) = if_released old.pedals (first_held k old.held)
of_key old k other = []

abbrev pub each_released : List HeldNote → List KeyEvent
each_released hs = map (λ (h : HeldNote). Released (One h.handle)) hs

-- what a pedal releases
abbrev pub of_pedal : LiveState → PedalMove → Answer → List KeyEvent
of_pedal old m (answer.Counted n) = each_released (sustained_by m.pedal old.held)
of_pedal old m other = []

abbrev pub if_silenced : Answer → List KeyEvent
if_silenced (answer.Counted n) = Released All ∷ []
if_silenced other = []

abbrev pub if_stopped : Answer → List KeyEvent
if_stopped answer.Done = Stopped ∷ []
if_stopped other = []

abbrev pub if_given : ℕ → Answer → List KeyEvent
if_given m answer.Done = Given m ∷ []
if_given m other = []

-- the events of a request for the player
abbrev pub events_of : LiveState → Request → Answer → LiveState → List KeyEvent
events_of old (asks.Edit e) a new = if_edited a new
events_of old (asks.Neutral e) a new = if_edited a new
events_of old asks.Undo a new = if_edited a new
events_of old asks.Redo a new = if_edited a new
events_of old (asks.Note n) a new = if_pressed old.performance.next_handle n a
events_of old (asks.Press n) a new = if_pressed old.performance.next_handle n a
events_of old (asks.Release k) a new = of_key old k a
events_of old (asks.Pedal m) a new = of_pedal old m a
events_of old asks.Silence a new = if_silenced a
events_of old asks.Stop a new = if_stopped a
events_of old (asks.Frames m) a new = if_given m a
events_of old (asks.Record path) a new = []
events_of old (asks.Save paths) a new = []
events_of old asks.Voices a new = []
events_of old asks.Meter a new = []
events_of old asks.Show a new = []
events_of old asks.Help a new = []
events_of old asks.Quit a new = []

abbrev pub block_if : LiveState → ℕ → Answer → List ℤ
block_if old m answer.Done = block old.performance.player m
block_if old m other = []

-- the frames of a request, left and right samples in turn
abbrev pub frames_of : LiveState → Request → Answer → List ℤ
frames_of old (asks.Frames m) a = block_if old m a
frames_of old other a = []

abbrev pub preamble_if : Answer → List ℕ → List ℕ
preamble_if answer.Done text = text
preamble_if other text = []

-- the text before the answer: the listing of the current bank, or the help
abbrev pub preamble_of : Counts → LiveState → Request → Answer → List ℕ
preamble_of counts old asks.Show a = preamble_if a (listing_now counts old)
preamble_of counts old asks.Help a = preamble_if a HELP.now
preamble_of counts old other a = []

-- the files after a request: only a save and a recording change them
abbrev pub FilesAfterRequest : SessionFiles → LiveState → Request → Answer → Streams → Streams → Type 0
FilesAfterRequest own live (asks.Save paths) a old new = FilesAfterSave own live paths a old.files new.files new.written
FilesAfterRequest own live (asks.Record path) a old new =
    FilesAfterRecord own live path a old.files new.files new.written
FilesAfterRequest own live other a old new = SavesNothing old new

abbrev pub is_done : Answer → Bool
is_done answer.Done = true
is_done other = false

-- whether the session ends after the request
abbrev pub is_end : Request → Answer → Bool
is_end asks.Quit a = is_done a
is_end other a = false

-- ---- one request that is done

-- the session after it, the frames written, and the files after it
pub record Does (own : SessionFiles) (live live_new : LiveState) (r : Request) (a : Answer)
    (old new : Streams) : Type 0 where
  pub session : RequestIs live r a live_new
  pub frames : Appends old.pcm new.pcm (flat_map sample_bytes (frames_of live r a))
  pub files : FilesAfterRequest own live r a old new

-- The writer failed after a prefix of these frames. The fault counts the bytes of all frames of the session so far,
-- saturating.
pub record StopsInFrames (old : LiveState) (count : ℕ) (pcm pcm_new : Option (List ℕ)) (written : ℕ) : Type 0 where
  pub part : ℕ
  pub counted : written ≡ min (4 * old.performance.given + part) most
  pub part_within : part ≤ length (flat_map sample_bytes (block old.performance.player count))
  pub out : Appends pcm pcm_new (take part (flat_map sample_bytes (block old.performance.player count)))

abbrev pub FramesStop : LiveState → ℕ → Option (List ℕ) → Option (List ℕ) → LiveFault → Type 0
FramesStop old count pcm pcm_new (fault.Pcm written) = StopsInFrames old count pcm pcm_new written
FramesStop old count pcm pcm_new other = ⊥

-- only a request for frames stops midway
abbrev pub StopsIn : LiveState → Request → Streams → Streams → LiveFault → Type 0
StopsIn live (asks.Frames count) old new why = FramesStop live count old.pcm new.pcm why × SavesNothing old new
StopsIn live other old new why = ⊥
