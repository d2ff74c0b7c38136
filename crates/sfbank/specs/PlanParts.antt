-- The parts of plans: what requests do, why they do nothing, and the steps before that.
use Rattle.std.specs.Prelude.{◌≡◌, ◌&&◌, ◌||◌, ℕ, List, [], ◌∷◌, Option, Some, None, Result, Ok, Err, Bool, true, false}
use Rattle.std.specs.Prelude.{if◌then◌else◌, codes, not, ⊤}
use Rattle.std.specs.Borrow.{Bor}
use Rattle.std.specs.Path.{path_file_stem}
use Rattle.std.specs.Option.{option_map_or, unwrap_or}
use Rattle.bank_parts.specs.declared.parts.Parts.{Parts}
use Rattle.base_outputs.specs.declared.output_fault.OutputFault.{OutputFault}
use Rattle.base_outputs.specs.declared.output_fault.OutputFault.TheVariants.{SameFile, HoldsBank}
use Rattle.file_host.specs.declared.input_fault.InputFault.{InputFault}
use Rattle.file_host.specs.World.{World, file_at, stores_at}
use Rattle.file_host.specs.Checks.{is_one_of, is_bank_at}
use Rattle.script_of_bank.specs.declared.samples.SamplePoints.{SamplePoints}
use Rattle.script_of_bank.specs.declared.samples.SamplePoints.TheVariants.{Kept, LeftOut}
use Rattle.show_listing.specs.declared.listing.Details.{Details}
use Rattle.program_commands.specs.declared.explain.Topic.{Topic}
use Rattle.program_commands.specs.declared.recordings.ImportPaths.{ImportPaths}
use Rattle.program_commands.specs.declared.recordings.WavePaths.{WavePaths}
use Rattle.program_commands.specs.declared.words.CheckPaths.{CheckPaths}
use Rattle.program_commands.specs.declared.words.LivePaths.{LivePaths}
use Rattle.program_commands.specs.declared.plans.PlanPaths.{PlanPaths}
use Rattle.program_commands.specs.declared.words.ScriptPaths.{ScriptPaths}
use Rattle.program_commands.specs.declared.words.ShowPaths.{ShowPaths}
use Rattle.program_reports.specs.declared.run_fault.RunFault.{RunFault}
use Rattle.sfbank.specs.Outcome.{Done, show_outcome, show_details_outcome}
use Rattle.sfbank.specs.declared.script.ScriptForm.{ScriptForm}
use Rattle.sfbank.specs.Differences.{TwoBanks}
use Rattle.sfbank.specs.Recordings.{pair_outcome, wave_outcome}
use Rattle.sfbank.specs.Purposes.{Purpose}
use Rattle.wave_file.specs.declared.fault.WaveFault.{WaveFault}

-- the text of a path
abbrev pub Path : Type 0
Path = List ℕ

-- the path that is reported for the standard output
abbrev pub standard_output : Path
standard_output = codes "-"

-- What is written: these bytes, a script that is found between two files or for the bank of a file, with comments or
-- without, the text about a topic, the findings of a bank, or its page with them.
pub data Content : Type 0 where
  Text : List ℕ → Content
  Difference : Bool → List ℕ → List ℕ → Content
  Edits : Bool → Purpose → List ℕ → Content
  Explanation : Topic → Content
  Findings : Parts → Content
  Page : Parts → Content

-- A bank's file and an undo script: these texts, or those of edits that are found for the bank of a file.
pub data Texts : Type 0 where
  Known : Done → Texts
  Found : Purpose → List ℕ → Texts

-- A step of saving a folder: a folder is made, unless something is there, or a file in it is saved.
pub data FolderStep : Type 0 where
  MakesFolder : Path → FolderStep
  SavesFile : Path → List ℕ → FolderStep

-- What a request does: it saves a file, a bank with its undo script, or before these the script of edits that are found;
-- it saves a folder, which may be there already or not, step by step; it prints, or prints the findings of a bank at a
-- path, which may have none, or it begins a session on a file.
pub data Action : Type 0 where
  Saves : Path → Content → Action
  SavesBoth : Path → Path → Texts → Action
  SavesAll : Path → Path → Path → Bool → Purpose → List ℕ → Action
  SavesFolder : Path → Bool → List FolderStep → Action
  Prints : Path → Content → Action
  Checks : Path → Parts → Action
  Plays : LivePaths → List ℕ → Action

-- Why a request does nothing: an output is rejected, an input can't be read, or a run fails; of a recording of a kit or of
-- a folder, with the line that names it if there is one, that it can't be read, or can't be used.
pub data Why : Type 0 where
  Rejected : Path → OutputFault → Why
  Unread : Path → InputFault → Why
  Fails : Path → RunFault → Why
  UnreadRow : Option ℕ → Path → InputFault → Why
  FailsRow : Option ℕ → Path → WaveFault → Why

-- ---- inputs

-- what reads of the inputs of a request give
pub record Inputs : Type 0 where
  pub first : Result (List ℕ) InputFault
  pub second : Result (List ℕ) InputFault
  -- the recordings of a kit or of a folder
  pub others : List (Result (List ℕ) InputFault)

-- an input gives what the world says, if it is a file that stores and no pipe
abbrev pub GivesInput : World → Option Path → Result (List ℕ) InputFault → Type 0
GivesInput world None given = ⊤
GivesInput world (Some path) given = stores_at world path ≡ true → file_at world path ≡ given

-- ---- the parts of a plan

-- the reason, if the test holds, else the rest of the plan
abbrev pub unless : {X : Type 0} → Bool → Why → Result X Why → Result X Why
unless true why rest = Err why
unless false why rest = rest

-- an output that is one file with one of the others is rejected
abbrev pub apart : {X : Type 0} → World → Path → List (List ℕ) → Result X Why → Result X Why
apart world path others rest = unless (is_one_of world path others) (Rejected path SameFile) rest

-- an output that would replace a bank is rejected, except with `force`
abbrev pub no_bank : {X : Type 0} → World → Path → Bool → Result X Why → Result X Why
no_bank world path force rest = unless (not force && is_bank_at world path) (Rejected path HoldsBank) rest

-- the rest of the plan for the bytes of an input, or its fault
abbrev pub with_input : {X : Type 0} → Path → Result (List ℕ) InputFault → (List ℕ → Result X Why) → Result X Why
with_input path (Ok bytes) rest = rest bytes
with_input path (Err why) rest = Err (Unread path why)

-- a content at a path: it is printed, if the path leads to the standard output, else saved
abbrev pub put_at : World → Path → Content → Action
put_at world path content = if world.paths.is_output path then Prints path content else Saves path content

-- the outcome of a run with one text, at a path
abbrev pub with_text : World → Path → Result (List ℕ) RunFault → Result Action Why
with_text world path (Ok text) = Ok (put_at world path (Text text))
with_text world path (Err fault) = Err (Fails path fault)

-- the same on the standard output
abbrev pub with_print : Result (List ℕ) RunFault → Result Action Why
with_print (Ok text) = Ok (Prints standard_output (Text text))
with_print (Err fault) = Err (Fails standard_output fault)

-- the findings of a bank on the standard output; if it may have none, they are a fault of its file
abbrev pub with_findings : CheckPaths → Result Parts RunFault → Result Action Why
with_findings p (Ok b) = Ok (if p.strict then Checks p.input.now b else Prints standard_output (Findings b))
with_findings p (Err fault) = Err (Fails standard_output fault)

-- the page of a bank, at a path
abbrev pub with_page : World → Path → Result Parts RunFault → Result Action Why
with_page world path (Ok b) = Ok (put_at world path (Page b))
with_page world path (Err fault) = Err (Fails path fault)

-- the outcome of a run with an undo script, at two paths
abbrev pub with_both : Path → Path → Result Done RunFault → Result Action Why
with_both out undo (Ok done) = Ok (SavesBoth out undo (Known done))
with_both out undo (Err fault) = Err (Fails out fault)

-- the outcome of a run without its undo script
abbrev pub without_undo : Result Done RunFault → Result (List ℕ) RunFault
without_undo (Ok done) = Ok done.out
without_undo (Err fault) = Err fault

-- a difference of two files whose banks are of one version
abbrev pub with_difference : World → Path → Bool → List ℕ → List ℕ → Result TwoBanks RunFault → Result Action Why
with_difference world path comments a b (Ok banks) = Ok (put_at world path (Difference comments a b))
with_difference world path comments a b (Err fault) = Err (Fails path fault)

-- edits that are found for a bank: both texts are saved, after the script of the edits if it has a path
abbrev pub saves_found : Option (Bor Path) → Path → Path → Bool → Purpose → List ℕ → Action
saves_found None out undo comments purpose file = SavesBoth out undo (Found purpose file)
saves_found (Some script) out undo comments purpose file = SavesAll script.now out undo comments purpose file

-- the same, or the script is printed
abbrev pub edits_at : PlanPaths → Purpose → List ℕ → Action
edits_at p purpose file =
    if p.dry_run then Prints standard_output (Edits (not p.no_comments) purpose file)
    else saves_found p.script p.out.now p.undo.now (not p.no_comments) purpose file

-- the same for the bank of a file, if it is one, and for a purpose, if there is one
abbrev pub with_edits : PlanPaths → List ℕ → Result Purpose RunFault → Result Action Why
with_edits p file (Ok purpose) = Ok (edits_at p purpose file)
with_edits p file (Err fault) = Err (Fails p.out.now fault)

-- the checks of the script of edits, if it has a path: it may be none of these files
abbrev pub script_apart : {X : Type 0} → World → Option (Bor Path) → List Path → Bool → Result X Why → Result X Why
script_apart world None others force rest = rest
script_apart world (Some script) others force rest = apart world script.now others (no_bank world script.now force rest)

-- the checks of the scripts, where the bank is the only input
abbrev pub undo_apart : {X : Type 0} → World → PlanPaths → Result X Why → Result X Why
undo_apart world p rest =
    apart world p.undo.now (p.input.now ∷ p.out.now ∷ [])
    (no_bank world p.undo.now p.force
    (script_apart world p.script (p.input.now ∷ p.out.now ∷ p.undo.now ∷ []) p.force rest))

-- the checks of all outputs, where there is another input
abbrev pub both_apart : {X : Type 0} → World → PlanPaths → Path → Result X Why → Result X Why
both_apart world p other rest =
    apart world p.out.now (other ∷ [])
    (apart world p.undo.now (p.input.now ∷ other ∷ p.out.now ∷ [])
    (no_bank world p.undo.now p.force
    (script_apart world p.script (p.input.now ∷ other ∷ p.out.now ∷ p.undo.now ∷ []) p.force rest)))

-- a listing with details, if one is asked for
abbrev pub details_of : ShowPaths → Details
details_of paths = record { zones = paths.zones; uses = paths.uses }

abbrev pub listing_outcome : ShowPaths → List ℕ → Result (List ℕ) RunFault
listing_outcome paths file =
    if paths.zones || paths.uses then show_details_outcome (details_of paths) file else show_outcome file

abbrev pub points_of : Bool → SamplePoints
points_of left_out = if left_out then LeftOut else Kept

-- the form of the script that the words of `script` ask for
abbrev pub form_of : ScriptPaths → ScriptForm
form_of paths = record { points = points_of paths.no_points; comments = not paths.no_comments }

-- the name of an imported recording: that of its file, without its extension
abbrev pub name_in : List ℕ → List ℕ
name_in path = unwrap_or (path_file_stem path) []

-- the same, if no name is given
abbrev pub import_name : ImportPaths → List ℕ
import_name paths = option_map_or (λ name. name) paths.name (name_in paths.wave.now)

-- a sample as a WAVE file, or the pair of which it is one
abbrev pub export_outcome : WavePaths → List ℕ → Result (List ℕ) RunFault
export_outcome paths file = if paths.pair then pair_outcome file paths.sample else wave_outcome file paths.sample
