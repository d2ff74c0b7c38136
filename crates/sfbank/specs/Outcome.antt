-- What a run writes, or its fault, as a function of the input bytes.
use Rattle.std.specs.Prelude.{◌≡◌, ℕ, Bool, true, false, List, [], ◌∷◌, map, Option, Some, None, Result, Ok, Err}
use Rattle.bank_parts.specs.declared.parts.Parts.{Parts}
use Rattle.bank_format.specs.declared.fault.ReadFault.{ReadFault}
use Rattle.bank_format.specs.declared.fault.Counts.{Counts}
use Rattle.bank_format.specs.Canon.{canon}
use Rattle.bank_format.specs.Chunks.{window}
use Rattle.bank_format.specs.Reading.{content_in}
use Rattle.bank_format.specs.ReadChecks.{fault_of}
use Rattle.edit_forms.specs.declared.edit.Edit.{Edit}
use Rattle.edit_refusals.specs.declared.refusal.Refusal.{Refusal}
use Rattle.edit_refusals.specs.Edits.{raw, refusal}
use Rattle.bank_edits.specs.Runs.{after_all, undo_list}
use Rattle.edit_script.specs.declared.parsing.Line.{Line}
use Rattle.script_tokens.specs.declared.fault.ScriptFault.{ScriptFault}
use Rattle.edit_script.specs.Script.{script_of}
use Rattle.edit_script.specs.Printing.{texts_of}
use Rattle.show_listing.specs.declared.listing.Details.{Details}
use Rattle.show_listing.specs.Listing.{listing}
use Rattle.show_listing.specs.Details.{detailed_listing}
use Rattle.script_notes.specs.declared.fault.NoteFault.{NoteFault}
use Rattle.script_notes.specs.Notes.{Numbers, notes_of}
use Rattle.mixer.specs.Render.{render}
use Rattle.sound_neutral_edits.specs.Neutral.{is_neutral}
use Rattle.wave_file.specs.Wave.{wave}
use Rattle.program_reports.specs.declared.run_fault.RunFault.{RunFault}
use Rattle.program_reports.specs.declared.run_fault.RunFault.TheVariants as run

-- both texts of a run that succeeds
pub record Done : Type 0 where
  pub out : List ℕ
  pub undo : List ℕ

-- the edits of lines
abbrev pub edits_of : List Line → List Edit
edits_of lines = map (λ (l : Line). l.edit) lines

-- a refused line: its number and why
pub record RefusedLine : Type 0 where
  pub number : ℕ
  pub why : Refusal

abbrev pub or_else : ℕ → Option Refusal → Option RefusedLine → Option RefusedLine
or_else number (Some why) later = Some (record { number = number; why = why })
or_else number None later = later

-- the first refused line, where each edit is applied to the bank that the edits before it made
abbrev pub first_refused : Parts → List Line → Option RefusedLine
first_refused b [] = None
first_refused b (l ∷ lines) = or_else l.number (refusal b l.edit) (first_refused (raw b l.edit) lines)

-- the canonical file of the edited bank, and its undo text: the inverses of the edits, the last edit's first
abbrev pub both_texts : Parts → List Edit → Done
both_texts b edits = record { out = canon (after_all b edits); undo = texts_of (undo_list b edits) }

abbrev pub unless_refused : Option RefusedLine → Done → Result Done RunFault
unless_refused (Some r) done = Err (run.Refused r.number r.why)
unless_refused None done = Ok done

abbrev pub after_script : Parts → Result (List Line) ScriptFault → Result Done RunFault
after_script b (Ok lines) = unless_refused (first_refused b lines) (both_texts b (edits_of lines))
after_script b (Err f) = Err (run.Script f)

abbrev pub unless_neutral : Bool → ℕ → Option ℕ → Option ℕ
unless_neutral true number later = later
unless_neutral false number later = Some number

-- the number of the first line whose edit is not neutral
abbrev pub first_not_neutral : List Line → Option ℕ
first_not_neutral [] = None
first_not_neutral (l ∷ lines) = unless_neutral (is_neutral l.edit) l.number (first_not_neutral lines)

abbrev pub if_neutral : Option ℕ → Result Done RunFault → Result Done RunFault
if_neutral (Some number) r = Err (run.NotNeutral number)
if_neutral None r = r

-- the outcome of a script whose edits must all be neutral; that is checked before any edit is done
abbrev pub after_neutral_script : Parts → Result (List Line) ScriptFault → Result Done RunFault
after_neutral_script b (Ok lines) = if_neutral (first_not_neutral lines) (after_script b (Ok lines))
after_neutral_script b (Err f) = Err (run.Script f)

-- the fault of the file, if it has one, else the outcome for its bank
abbrev pub after_reading : {X : Type 0} → Option ReadFault → Result X RunFault → Result X RunFault
after_reading (Some f) r = Err (run.Read f)
after_reading None r = r

-- the bank that a file reads as
abbrev pub bank_in : List ℕ → Parts
bank_in file = (content_in (window file)).bank

-- the counts of what reading dropped or repaired
abbrev pub counts_in : List ℕ → Counts
counts_in file = (content_in (window file)).counts

-- The first failed check of the file, else the first fault of the script, else the first refused line, else both texts.
unfoldable pub outcome : List ℕ → List ℕ → Result Done RunFault
outcome file script = after_reading (fault_of file) (after_script (bank_in file) (script_of script))

-- The first failed check of the file, else the first fault of the script, else the first line that is not neutral, else
-- the first refused line, else both texts.
unfoldable pub neutral_outcome : List ℕ → List ℕ → Result Done RunFault
neutral_outcome file script = after_reading (fault_of file) (after_neutral_script (bank_in file) (script_of script))

-- The first failed check of the file, else the canonical file of its bank.
unfoldable pub canon_outcome : List ℕ → Result (List ℕ) RunFault
canon_outcome file = after_reading (fault_of file) (Ok (canon (bank_in file)))

-- The first failed check of the file, else the listing of its bank and of the counts of reading it.
unfoldable pub show_outcome : List ℕ → Result (List ℕ) RunFault
show_outcome file = after_reading (fault_of file) (Ok (listing (bank_in file) (counts_in file)))

-- The first failed check of the file, else the listing of its bank and of the counts of reading it, with these details.
unfoldable pub show_details_outcome : Details → List ℕ → Result (List ℕ) RunFault
show_details_outcome details file =
    after_reading (fault_of file) (Ok (detailed_listing details (bank_in file) (counts_in file)))

-- the WAVE file of notes rendered on a bank, or their first fault
abbrev pub after_notes : Parts → Result (List Numbers) NoteFault → Result (List ℕ) RunFault
after_notes b (Ok notes) = Ok (wave (render b notes))
after_notes b (Err fault) = Err (run.Notes fault)

-- The first failed check of the file, else the first fault of the notes, else the WAVE file of the notes on its bank.
unfoldable pub play_outcome : List ℕ → List ℕ → Result (List ℕ) RunFault
play_outcome file notes = after_reading (fault_of file) (after_notes (bank_in file) (notes_of notes))

-- If a run succeeds, its undo text, run on the written file, succeeds too: it writes the canonical file of the first
-- bank, and its own undo text is the script's edits in canonical form. This is the theorem of undo for files, the
-- clause `restores` of `edit_run` (src/edit.rt), proved as `restores` in proofs/Restores.antt.
abbrev pub IsUndone : List ℕ → List ℕ → Type 0
IsUndone file script =
    (done : Done) (lines : List Line) → outcome file script ≡ Ok done → script_of script ≡ Ok lines
    → outcome done.out done.undo ≡ Ok (record { out = canon (bank_in file); undo = texts_of (edits_of lines) })

-- If a run succeeds, and its undo text on the written file too, each note list has the same outcome on the file
-- written last and on the first file.
abbrev pub RestoredRendersSame : List ℕ → List ℕ → Type 0
RestoredRendersSame file script =
    (done back : Done) (notes : List ℕ) → outcome file script ≡ Ok done → outcome done.out done.undo ≡ Ok back
    → play_outcome back.out notes ≡ play_outcome file notes

-- If a neutral run succeeds, the run with any edits has the same outcome.
abbrev pub IsRunOfEdits : List ℕ → List ℕ → Type 0
IsRunOfEdits file script = (done : Done) → neutral_outcome file script ≡ Ok done → outcome file script ≡ Ok done

-- If a neutral run succeeds, its undo text on the written file is a neutral run that succeeds too: it writes the
-- canonical file of the first bank, and its own undo text is the script's edits in canonical form.
abbrev pub IsNeutrallyUndone : List ℕ → List ℕ → Type 0
IsNeutrallyUndone file script =
    (done : Done) (lines : List Line) → neutral_outcome file script ≡ Ok done → script_of script ≡ Ok lines
    → neutral_outcome done.out done.undo ≡ Ok (record { out = canon (bank_in file); undo = texts_of (edits_of lines) })

-- If a neutral run succeeds, each note list has the same outcome on the written file and on the first file: the same
-- WAVE file or the same fault.
abbrev pub EditedRendersSame : List ℕ → List ℕ → Type 0
EditedRendersSame file script =
    (done : Done) (notes : List ℕ) → neutral_outcome file script ≡ Ok done
    → play_outcome done.out notes ≡ play_outcome file notes

-- Notes have the same outcome on the canonical file.
abbrev pub CanonRendersSame : List ℕ → List ℕ → Type 0
CanonRendersSame file notes =
    (text : List ℕ) → canon_outcome file ≡ Ok text → play_outcome text notes ≡ play_outcome file notes

-- a text, with an empty undo text
abbrev pub without_undo : Result (List ℕ) RunFault → Result Done RunFault
without_undo (Ok text) = Ok (record { out = text; undo = [] })
without_undo (Err fault) = Err fault

-- The outcome of the empty script is the canonical file and an empty undo text, or the fault of the file.
abbrev pub IsEmptyEdit : List ℕ → Type 0
IsEmptyEdit file = outcome file [] ≡ without_undo (canon_outcome file)

-- The canonical file of a canonical file is that file itself.
abbrev pub IsFixed : List ℕ → Type 0
IsFixed file = (text : List ℕ) → canon_outcome file ≡ Ok text → canon_outcome text ≡ Ok text
