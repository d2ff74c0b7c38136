-- The files after a save and after a recording.
use Rattle.std.specs.Prelude.{◌≡◌, ◌⊎◌, ℕ, List, [], ◌∷◌, Option, Result, Ok, Err}
use Rattle.std.specs.Option.{option_map, option_map_or}
use Rattle.bank_parts.specs.declared.parts.Parts.{Parts}
use Rattle.base_outputs.specs.declared.output_fault.OutputFault.{OutputFault}
use Rattle.sf_base.specs.declared.memory.Failure.{Failure}
use Rattle.sf_base.specs.declared.memory.Failure.TheVariants.{Fault, OutOfMemory}
use Rattle.file_host.specs.World.{World, with_text, with_pair}
use Rattle.file_host.specs.Saving.{Spoils, SpoilsPair}
use Rattle.file_host.specs.Checks.{IsApart, IsNoBank}
use Rattle.file_host.specs.declared.faults.Which.{Which}
use Rattle.file_host.specs.declared.faults.Which.TheVariants.{Out, Undo}
use Rattle.file_host.specs.declared.faults.PairFault.{PairFault}
use Rattle.file_host.specs.declared.faults.PairFault.TheVariants as pair
use Rattle.inverse_edits.specs.Histories.{bank_now, undo_edits}
use Rattle.live_lines.specs.declared.answer.Answer.{Answer}
use Rattle.live_lines.specs.declared.answer.Answer.TheVariants as answer
use Rattle.live_lines.specs.declared.paths.Paths.{Paths}
use Rattle.script_notes.specs.Notes.{notes_of}
use Rattle.script_of_notes.specs.NoteTexts.{notes_text}
use Rattle.live_sessions.specs.declared.live.LiveState.{LiveState}
use Rattle.live_sessions.specs.declared.performance.Performance.{Performance}
use Rattle.live_sessions.specs.declared.saving.SessionFiles.{SessionFiles}
use Rattle.live_sessions.specs.Performances.{recorded_now}
use Rattle.live_sessions.specs.Saved.{Saved, saved_of}

-- ---- the checks of a save

-- what a check of an output returns
abbrev pub Checked : Type 0
Checked = Result (Unit {0}) (Failure OutputFault)

-- the result of two checks in order: both accept, or it is that of the first that does not
abbrev pub InOrder : (Checked → Type 0) → (Checked → Type 0) → Checked → Type 0
InOrder first second (Ok u) = first (Ok u) × second (Ok u)
InOrder first second (Err why) = first (Err why) ⊎ (first (Ok tt) × second (Err why))

-- the saved bank does not replace the frames
abbrev pub OutIsApart : SessionFiles → Paths → Option World → Checked → Type 0
OutIsApart own paths world checked = IsApart world paths.out (own.pcm.now ∷ []) checked

-- the undo script replaces neither the session's bank nor the frames nor the saved bank, and no other bank, except with
-- `force`
abbrev pub UndoIsApart : SessionFiles → Paths → Option World → Checked → Type 0
UndoIsApart own paths world checked =
    InOrder (IsApart world paths.undo (own.bank.now ∷ own.pcm.now ∷ paths.out ∷ []))
    (IsNoBank world paths.undo own.force)
    checked

-- all checks accept
abbrev pub Accepts : SessionFiles → Paths → Option World → Type 0
Accepts own paths world = OutIsApart own paths world (Ok tt) × UndoIsApart own paths world (Ok tt)

-- the first check that does not accept rejects this path, with this fault
abbrev pub Rejects : SessionFiles → Paths → Option World → List ℕ → OutputFault → Type 0
Rejects own paths world path why =
    ((path ≡ paths.out) × OutIsApart own paths world (Err (Fault why)))
    ⊎ ((path ≡ paths.undo) × OutIsApart own paths world (Ok tt) × UndoIsApart own paths world (Err (Fault why)))

-- ---- the texts

-- the texts of the current bank
abbrev pub saved_now : LiveState → Saved
saved_now s =
    option_map_or (λ (b : Parts). saved_of b (undo_edits s.session)) (bank_now s.session)
    (record { out = []; undo = [] })

-- the world after both texts were saved
abbrev pub with_saved : Paths → Saved → World → World
with_saved paths saved world = with_pair paths.undo saved.undo paths.out saved.out world

-- a save of both texts failed
abbrev pub SpoilsSaved : Paths → Saved → Option World → Option World → Type 0
SpoilsSaved paths saved old new = SpoilsPair old new paths.undo saved.undo paths.out saved.out

-- the path of one of the texts
abbrev pub path_of : Which → Paths → List ℕ
path_of Out paths = paths.out
path_of Undo paths = paths.undo

-- ---- a save

-- The files after a save with this answer. A write fault counts the bytes that the host wrote.
abbrev pub FilesAfterSave : SessionFiles → LiveState → Paths → Answer → Option World → Option World → ℕ → Type 0
FilesAfterSave own s paths answer.Done old new written =
    Accepts own paths old × (new ≡ option_map (with_saved paths (saved_now s)) old)
FilesAfterSave own s paths (answer.WriteFault path count) old new written =
    Accepts own paths old × SpoilsSaved paths (saved_now s) old new × (count ≡ written)
FilesAfterSave own s paths (answer.Rejected path why) old new written = Rejects own paths old path why × (new ≡ old)
FilesAfterSave own s paths other old new written = new ≡ old

-- ---- a recording

-- the text of the notes so far
abbrev pub recording_text : Performance → List ℕ
recording_text s = notes_text (recorded_now s)

-- the note list replaces neither the session's bank nor the frames, and no other bank, except with `force`
abbrev pub NotesAreApart : SessionFiles → List ℕ → Option World → Checked → Type 0
NotesAreApart own path world checked =
    InOrder (IsApart world path (own.bank.now ∷ own.pcm.now ∷ [])) (IsNoBank world path own.force) checked

-- The files after a recording with this answer: a note list that reads as the notes so far. A write fault counts the
-- bytes that the host wrote.
abbrev pub FilesAfterRecord : SessionFiles → LiveState → List ℕ → Answer → Option World → Option World → ℕ → Type 0
FilesAfterRecord own s path (answer.Counted n) old new written =
    NotesAreApart own path old (Ok tt) × (new ≡ option_map (with_text path (recording_text s.performance)) old)
    × (notes_of (recording_text s.performance) ≡ Ok (recorded_now s.performance))
FilesAfterRecord own s path (answer.WriteFault p count) old new written =
    NotesAreApart own path old (Ok tt) × Spoils old new path (recording_text s.performance) × (count ≡ written)
FilesAfterRecord own s path (answer.Rejected p why) old new written =
    NotesAreApart own path old (Err (Fault why)) × (new ≡ old)
FilesAfterRecord own s path other old new written = new ≡ old

-- ---- the answers to a save

-- the answer to a save of which a path is rejected
abbrev pub rejection : Paths → Which → Failure OutputFault → Answer
rejection paths which (Fault why) = answer.Rejected (path_of which paths) why
rejection paths which OutOfMemory = answer.OutOfMemory

-- the answer to a save that failed
abbrev pub failure_of : Paths → PairFault → Answer
failure_of paths (pair.Write which written) = answer.WriteFault (path_of which paths) written
failure_of paths pair.OutOfMemory = answer.OutOfMemory
