-- The steps of a request that makes the bank of a folder.
use Rattle.std.specs.Prelude.{◌≡◌, ℕ, List, Option, Some, None, Result, Ok, Err, ⊤}
use Rattle.std.specs.Borrow.{Bor}
use Rattle.edit_script.specs.Script.{script_of}
use Rattle.file_host.specs.declared.input_fault.InputFault.{InputFault}
use Rattle.file_host.specs.World.{World}
use Rattle.program_commands.specs.declared.words.PackPaths.{PackPaths}
use Rattle.program_reports.specs.declared.fault.Fault.{Fault}
use Rattle.program_reports.specs.declared.run_fault.RunFault.{RunFault}
use Rattle.script_tokens.specs.Pool.{pool_bytes}
use Rattle.sfbank.specs.Ends.{Outside, EndsAs}
use Rattle.sfbank.specs.FolderPlans.{entries_in_text, entries_of_text, entries_or_none, entries_plan, lines_plan, pack_plan}
use Rattle.sfbank.specs.FolderPlans.{text_path}
use Rattle.sfbank.specs.Folders.{lines_read}
use Rattle.sfbank.specs.KitPlans.{Entry, GiveWaves}
use Rattle.sfbank.specs.KitSteps.{IsOfKit}
use Rattle.sfbank.specs.PlanParts.{Inputs, GivesInput}
use Rattle.sfbank.specs.Written.{FailsBefore}

-- the literals of a text, or the fault of its lines
abbrev pub IsPoolOf : {X : Type 0} → (X → List ℕ) → List ℕ → Result X RunFault → Type 0
IsPoolOf view text (Ok x) = pool_bytes text ≡ Ok (view x)
IsPoolOf view text (Err fault) = FailsBefore fault (lines_read (script_of text))

-- the file that is packed, or the fault of the run, in which that of a WAVE file names the file
abbrev pub PacksFiles : {X : Type 0} → (X → List ℕ) → List Entry → Bor (List ℕ) → Result (List ℕ) RunFault → Result X Fault
    → Type 0
PacksFiles view entries out outcome (Ok x) = outcome ≡ Ok (view x)
PacksFiles view entries out outcome (Err fault) =
    (why : RunFault) × FailsBefore why outcome × IsOfKit entries out why fault

-- WAVE files are packed as it is planned for what they give
pub record EndsEntriesIn {U : Type 0} (p : PackPaths) (text : List ℕ) (entries : List Entry) (w : World)
    (old new : Outside) (written : ℕ) (end : Result U Fault) : Type 0 where
  pub given : List (Result (List ℕ) InputFault)
  pub gives : GiveWaves w entries given
  pub ends : EndsAs w (entries_plan p text given w entries) old new written end

-- the same, as far as the world is known
abbrev pub EndsEntriesFor : {U : Type 0} → PackPaths → List ℕ → List Entry → Option World → Outside → Outside → ℕ
    → Result U Fault → Type 0
EndsEntriesFor p text entries None old new written end = ⊤
EndsEntriesFor p text entries (Some w) old new written end = EndsEntriesIn p text entries w old new written end

abbrev pub EndsEntries : {U : Type 0} → PackPaths → List ℕ → List Entry → Outside → Outside → ℕ → Result U Fault → Type 0
EndsEntries p text entries old new written end = EndsEntriesFor p text entries old.files old new written end

-- a text is packed as it is planned for what its WAVE files give
pub record EndsTextIn {U : Type 0} (p : PackPaths) (text : List ℕ) (w : World) (old new : Outside) (written : ℕ)
    (end : Result U Fault) : Type 0 where
  pub given : List (Result (List ℕ) InputFault)
  pub gives : GiveWaves w (entries_or_none (entries_in_text p.folder.now text)) given
  pub ends : EndsAs w (lines_plan p text given w (entries_in_text p.folder.now text)) old new written end

abbrev pub EndsTextFor : {U : Type 0} → PackPaths → List ℕ → Option World → Outside → Outside → ℕ → Result U Fault
    → Type 0
EndsTextFor p text None old new written end = ⊤
EndsTextFor p text (Some w) old new written end = EndsTextIn p text w old new written end

abbrev pub EndsText : {U : Type 0} → PackPaths → List ℕ → Outside → Outside → ℕ → Result U Fault → Type 0
EndsText p text old new written end = EndsTextFor p text old.files old new written end

-- a folder is packed as it is planned for what its files give
pub record EndsPackIn {U : Type 0} (p : PackPaths) (w : World) (old new : Outside) (written : ℕ) (end : Result U Fault)
    : Type 0 where
  pub inputs : Inputs
  pub given_text : GivesInput w (Some (text_path p.folder.now)) inputs.first
  pub given_waves : GiveWaves w (entries_of_text p.folder.now inputs.first) inputs.others
  pub ends : EndsAs w (pack_plan p inputs w) old new written end

abbrev pub EndsPackFor : {U : Type 0} → PackPaths → Option World → Outside → Outside → ℕ → Result U Fault → Type 0
EndsPackFor p None old new written end = ⊤
EndsPackFor p (Some w) old new written end = EndsPackIn p w old new written end

abbrev pub EndsPack : {U : Type 0} → PackPaths → Outside → Outside → ℕ → Result U Fault → Type 0
EndsPack p old new written end = EndsPackFor p old.files old new written end
