-- On files: what `apply` restores of a bank and an undo script that were saved.
use Rattle.std.specs.Prelude.{◌≡◌, ◌≢◌, ℕ, List, [], Some, None, Ok, true}
use Rattle.hydra_records.specs.Records.{AreBytes}
use Rattle.bank_parts.specs.declared.parts.Parts.{Parts}
use Rattle.bank_format.specs.Canon.{canon}
use Rattle.bank_format.specs.ReadChecks.{fault_of}
use Rattle.edit_forms.specs.declared.edit.Edit.{Edit}
use Rattle.edit_script.specs.declared.parsing.Line.{Line}
use Rattle.edit_script.specs.Script.{script_of}
use Rattle.edit_script.specs.Printing.{texts_of}
use Rattle.file_host.specs.World.{World, held_at, file_at, place_of, stores_at, with_pair}
use Rattle.inverse_edits.specs.Histories.{IsHistory, bank_now, undo_edits}
use Rattle.live_sessions.specs.Saved.{saved_of}
use Rattle.live_sessions.specs.Steps.{started_with}
use Rattle.live_sessions.specs.Turns.{Turn, AreTurns}
use Rattle.wave_file.specs.declared.options.ReadOptions.{ReadOptions}
use Rattle.wave_file.specs.declared.recording.Recording.{Recording}
use Rattle.wave_file.specs.Recordings.{FitsKey}
use Rattle.wave_file.specs.ReadChecks.{recording_in}
use Rattle.program_commands.specs.declared.words.ApplyPaths.{ApplyPaths}
use Rattle.program_commands.specs.declared.words.Forms.TheVariants.{Every}
use Rattle.program_commands.specs.declared.words.Request.{Request}
use Rattle.program_commands.specs.declared.words.Request.TheVariants.{Apply}
use Rattle.sfbank.specs.Outcome.{Done, bank_in, edits_of, play_outcome}
use Rattle.sfbank.specs.declared.program.recorded.RecordingWork.{RecordingWork}
use Rattle.sfbank.specs.Recordings.{FitsDestination, change_of}
use Rattle.sfbank.specs.Kits.{Design, FitSources, FitsDesign, Source, kit_outcome}
use Rattle.sfbank.specs.RecordingPlans.{RecordsBy}
use Rattle.sfbank.specs.Purposes.{Purpose, promise_of}
use Rattle.sfbank.specs.PlannedEdits.{IsPlanned}
use Rattle.sfbank.specs.PlanParts.{SavesBoth, Known}
use Rattle.sfbank.specs.Plans.{plan}

-- `apply` of these paths was done on files: it read two files, planned to save two texts, and saved them.
pub record IsApplied (paths : ApplyPaths) (old new : World) (file script : List ℕ) (done : Done) : Type 0 where
  pub read : file_at old paths.input.now ≡ Ok file
  pub read_script : file_at old paths.script.now ≡ Ok script
  pub planned : plan (Apply paths) old (record { first = Ok file; second = Ok script; others = [] })
      ≡ Ok (SavesBoth paths.out.now paths.undo.now (Known done))
  pub files : new ≡ with_pair paths.undo.now done.undo paths.out.now done.out old

-- the same of a request that brings a recording into a bank, `import` or `replace`
pub record IsRecorded (work : RecordingWork) (request : Request) (old new : World) (file wave : List ℕ) (done : Done)
    : Type 0 where
  pub records : RecordsBy work request
  pub read : file_at old work.paths.input.now ≡ Ok file
  pub read_wave : file_at old work.paths.other.now ≡ Ok wave
  pub planned : plan request old (record { first = Ok file; second = Ok wave; others = [] })
      ≡ Ok (SavesBoth work.paths.out.now work.paths.undo.now (Known done))
  pub files : new ≡ with_pair work.paths.undo.now done.undo work.paths.out.now done.out old

-- A bank and its undo script are regular files, or will be, at two places.
pub record ArePlaced (world : World) (out undo : List ℕ) : Type 0 where
  pub stores_out : stores_at world out ≡ true
  pub stores_undo : stores_at world undo ≡ true
  pub apart : place_of world out ≢ place_of world undo

-- `apply` was done on a bank and an undo script that were left at these paths. Other files may have changed meanwhile.
pub record RunsOn (second : ApplyPaths) (out undo : List ℕ) (left now new : World) (file script : List ℕ) (back : Done)
    : Type 0 where
  pub out_is : second.input.now ≡ out
  pub undo_is : second.script.now ≡ undo
  pub stays_out : file_at now out ≡ file_at left out
  pub stays_undo : file_at now undo ≡ file_at left undo
  pub done : IsApplied second now new file script back

-- The last bank file holds the canonical file of the bank of a file, and the last undo script these edits. All notes
-- sound on it as on that file.
pub record IsRestored (second : ApplyPaths) (now new : World) (file edits : List ℕ) (back : Done) : Type 0 where
  pub texts : back ≡ record { out = canon (bank_in file); undo = edits }
  pub holds_bank : stores_at now second.out.now ≡ true → held_at new second.out.now ≡ Ok (canon (bank_in file))
  pub holds_edits : stores_at now second.undo.now ≡ true → place_of now second.out.now ≢ place_of now second.undo.now
      → held_at new second.undo.now ≡ Ok edits
  pub sound : (notes : List ℕ) → play_outcome back.out notes ≡ play_outcome file notes

-- Wherever a script was applied to files, applying its undo script in the same mode restores them, and gives its edits.
abbrev pub UndoRestoresFiles : Type 0
UndoRestoresFiles =
    (first second : ApplyPaths) (old left now new : World) (file script other_file other_script : List ℕ)
    (done back : Done) (lines : List Line)
    → AreBytes file → script_of script ≡ Ok lines → IsApplied first old left file script done
    → ArePlaced old first.out.now first.undo.now → second.forms ≡ first.forms
    → RunsOn second first.out.now first.undo.now left now new other_file other_script back
    → IsRestored second now new file (texts_of (edits_of lines)) back

-- the same for a recording that was brought into a bank
abbrev pub UndoRemovesRecordings : Type 0
UndoRemovesRecordings =
    (work : RecordingWork) (request : Request) (second : ApplyPaths) (old left now new : World)
    (file wave other_file other_script : List ℕ) (done back : Done) (r : Recording) (edits : List Edit)
    → AreBytes file → AreBytes wave → FitsDestination work.destination → FitsKey work.options.key
    → recording_in work.options wave ≡ Ok r → change_of work.destination (bank_in file) r ≡ Ok edits
    → IsRecorded work request old left file wave done
    → ArePlaced old work.paths.out.now work.paths.undo.now → second.forms ≡ Every
    → RunsOn second work.paths.out.now work.paths.undo.now left now new other_file other_script back
    → IsRestored second now new file (texts_of edits) back

-- the same for several recordings, and an instrument of them and a preset
abbrev pub UndoRemovesKits : Type 0
UndoRemovesKits =
    (design : Design) (options : ReadOptions) (sources : List Source) (out undo : List ℕ) (second : ApplyPaths)
    (old left now new : World) (file other_file other_script : List ℕ) (done back : Done)
    → AreBytes file → FitsKey options.key → FitsDesign design → FitSources sources
    → kit_outcome design options sources file ≡ Ok done
    → left ≡ with_pair undo done.undo out done.out old
    → ArePlaced old out undo → second.forms ≡ Every
    → RunsOn second out undo left now new other_file other_script back
    → IsRestored second now new file back.undo back

-- the same for edits that were found: they are on the last undo script
abbrev pub UndoRestoresPlans : Type 0
UndoRestoresPlans =
    (purpose : Purpose) (out undo : List ℕ) (second : ApplyPaths) (old left now new : World)
    (file other_file other_script : List ℕ) (done back : Done) (found : IsPlanned (promise_of purpose) file done)
    → AreBytes file → left ≡ with_pair undo done.undo out done.out old
    → ArePlaced old out undo → second.forms ≡ Every
    → RunsOn second out undo left now new other_file other_script back
    → IsRestored second now new file (texts_of found.edits) back

-- The same for what a live session saves at any time: it leads to the bank with which the session began.
abbrev pub UndoEndsSessions : Type 0
UndoEndsSessions =
    (file : List ℕ) (ts : List Turn) (last : _) (c : Parts) (out undo : List ℕ) (second : ApplyPaths)
    (old left now new : World) (other_file other_script : List ℕ) (back : Done)
    → AreBytes file → fault_of file ≡ None → AreTurns (started_with (bank_in file)) ts last → IsHistory last.session
    → bank_now last.session ≡ Some c
    → left ≡ with_pair undo (saved_of c (undo_edits last.session)).undo out (saved_of c (undo_edits last.session)).out old
    → ArePlaced old out undo → second.forms ≡ Every
    → RunsOn second out undo left now new other_file other_script back
    → IsRestored second now new file back.undo back
