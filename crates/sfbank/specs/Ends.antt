-- How a plan ends: what it leaves of the world of files, and what it prints.
use Rattle.std.specs.Prelude.{◌≡◌, ◌⊎◌, ◌≤◌, ℕ, List, [], length, take, string_bytes, Option, Some, None, Result, Ok, Err}
use Rattle.std.specs.Prelude.{◌==◌, Bool, true, false, ⊤}
use Rattle.std.specs.Option.{option_map}
use Rattle.std.specs.Io.KnownBytes.{Appends, Keeps}
use Rattle.bank_parts.specs.declared.parts.Parts.{Parts}
use Rattle.base_outputs.specs.declared.output_fault.OutputFault.TheVariants.{HoldsBank}
use Rattle.show_findings.specs.declared.finding.Finding.{Finding}
use Rattle.show_findings.specs.Findings.{AreFindings}
use Rattle.file_host.specs.World.{World, held_at, is_nothing, with_pair}
use Rattle.file_host.specs.World as world
use Rattle.file_host.specs.Saving.{Spoils, SpoilsPair}
use Rattle.file_host.specs.Checks.{IsUnreadable}
use Rattle.file_host.specs.declared.faults.Which.{Which}
use Rattle.file_host.specs.declared.faults.Which.TheVariants as which
use Rattle.program_commands.specs.declared.explain.Topic.{Topic}
use Rattle.program_commands.specs.declared.explain.Topic.TheVariants.{Number, Name}
use Rattle.program_reports.specs.declared.fault.Fault.{Fault}
use Rattle.program_reports.specs.declared.fault.Fault.TheVariants.{NoNumber, NoName, File, Output, Run}
use Rattle.program_reports.specs.declared.fault.Fault.TheVariants.{FolderThere, HasFindings, RowFile, RowRecording, PipeClosed}
use Rattle.program_reports.specs.declared.run_fault.RunFault.TheVariants as run
use Rattle.sfbank.specs.Outcome.{Done, bank_in}
use Rattle.sfbank.specs.Differences.{IsDifference}
use Rattle.sfbank.specs.EditTexts.{edits_text}
use Rattle.sfbank.specs.Findings.{IsPage, ListsFindings, finding_lines}
use Rattle.sfbank.specs.Purposes.{Purpose, promise_of}
use Rattle.sfbank.specs.Topics.{IsTopicText, IsUnexplained}
use Rattle.sfbank.specs.PlannedEdits.{IsPlanned, IsScript}
use Rattle.sfbank.specs.PlanParts.{Action, Content, FolderStep, Texts, Known, Found, Saves, SavesAll, SavesBoth, Prints, Plays}
use Rattle.sfbank.specs.PlanParts.{Text, Difference, Edits, Explanation as Explains, Why, Rejected, Unread, Fails}
use Rattle.sfbank.specs.PlanParts.{Checks, Findings, Page, SavesFolder, UnreadRow, FailsRow, standard_output}
use Rattle.sfbank.specs.SavedFolders.{HasSaved, MayWrite, StopsAmong, saved_steps}

-- the world of files, and the bytes of the standard output
pub record Outside : Type 0 where
  pub files : Option World
  pub printed : Option (List ℕ)

-- nothing is changed
pub record IsUntouched (old new : Outside) : Type 0 where
  pub files : new.files ≡ old.files
  pub printed : Keeps old.printed new.printed

-- ---- contents

-- these bytes are the content
abbrev pub IsContent : Content → List ℕ → Type 0
IsContent (Text text) bytes = bytes ≡ text
IsContent (Difference comments a b) bytes = IsDifference comments a b bytes × (bank_in a ≡ bank_in b → bytes ≡ [])
IsContent (Edits comments purpose file) bytes = IsScript comments (promise_of purpose) file bytes
IsContent (Explains topic) bytes = IsTopicText topic bytes
IsContent (Findings b) bytes = ListsFindings b bytes
IsContent (Page b) bytes = IsPage b bytes

-- these are the texts of a bank's file and of its undo script
abbrev pub AreTexts : Texts → Done → Type 0
AreTexts (Known texts) done = done ≡ texts
AreTexts (Found purpose file) done = IsPlanned (promise_of purpose) file done

-- ---- an action that is done

-- a file is saved whole, and all else is as it was
pub record SavesFile (path : List ℕ) (content : Content) (old new : Outside) : Type 0 where
  pub text : List ℕ
  pub is : IsContent content text
  pub files : new.files ≡ option_map (world.with_text path text) old.files
  pub printed : Keeps old.printed new.printed

-- a bank's file and its undo script are saved whole, and all else is as it was
pub record SavesPair (out undo : List ℕ) (texts : Texts) (old new : Outside) : Type 0 where
  pub done : Done
  pub are : AreTexts texts done
  pub files : new.files ≡ option_map (with_pair undo done.undo out done.out) old.files
  pub printed : Keeps old.printed new.printed

-- The script of edits that are found is saved whole, then the bank's file and its undo script.
pub record SavesThree (script out undo : List ℕ) (comments : Bool) (purpose : Purpose) (file : List ℕ) (old new : Outside) : Type 0 where
  pub done : Done
  pub found : IsPlanned (promise_of purpose) file done
  pub files : new.files
      ≡ option_map (with_pair undo done.undo out done.out)
      (option_map (world.with_text script (edits_text comments (bank_in file) found.edits)) old.files)
  pub printed : Keeps old.printed new.printed

-- A folder is saved, if it may be there already or nothing is there, and all else is as it was.
pub record SavesInFolder (folder : List ℕ) (force : Bool) (steps : List FolderStep) (old new : Outside) : Type 0 where
  pub allowed : MayWrite force folder old.files
  pub files : new.files ≡ option_map (saved_steps steps) old.files
  pub printed : Keeps old.printed new.printed

-- a text is printed whole, and no file is changed
pub record PrintsText (content : Content) (old new : Outside) : Type 0 where
  pub text : List ℕ
  pub is : IsContent content text
  pub printed : Appends old.printed new.printed text
  pub files : new.files ≡ old.files

-- the findings of a bank are printed whole, none or some, and no file is changed
pub record PrintsFindings (b : Parts) (none : Bool) (old new : Outside) : Type 0 where
  pub findings : List Finding
  pub are : AreFindings b findings
  pub some : (length findings == 0) ≡ none
  pub printed : Appends old.printed new.printed (finding_lines b findings)
  pub files : new.files ≡ old.files

abbrev pub Does : Action → Outside → Outside → Type 0
Does (Saves path content) old new = SavesFile path content old new
Does (SavesBoth out undo texts) old new = SavesPair out undo texts old new
Does (SavesAll script out undo comments purpose file) old new = SavesThree script out undo comments purpose file old new
Does (SavesFolder folder force steps) old new = SavesInFolder folder force steps old new
Does (Prints path content) old new = PrintsText content old new
Does (Checks path b) old new = PrintsFindings b true old new
Does (Plays paths file) old new = ⊥

-- ---- an action that stops in a write fault

-- The fault names the path of the text, and counts the bytes of it that were written. Of a file that is what the last
-- failed save wrote.

-- the file is as it was, or holds the whole text
pub record StopsFile (path : List ℕ) (content : Content) (old new : Outside) : Type 0 where
  pub text : List ℕ
  pub is : IsContent content text
  pub files : Spoils old.files new.files path text
  pub printed : Keeps old.printed new.printed

-- both files are as they were, or whole
pub record StopsPair (out undo : List ℕ) (texts : Texts) (old new : Outside) : Type 0 where
  pub done : Done
  pub are : AreTexts texts done
  pub files : SpoilsPair old.files new.files undo done.undo out done.out
  pub printed : Keeps old.printed new.printed

-- the script of edits is whole, and both files are as they were, or whole
pub record StopsAfterScript (script out undo : List ℕ) (comments : Bool) (purpose : Purpose) (file : List ℕ) (old new : Outside)
    : Type 0 where
  pub done : Done
  pub found : IsPlanned (promise_of purpose) file done
  pub files : SpoilsPair (option_map (world.with_text script (edits_text comments (bank_in file) found.edits)) old.files) new.files
      undo done.undo out done.out
  pub printed : Keeps old.printed new.printed

-- the steps before one are done, which makes no folder, or leaves its file as it was or whole
pub record StopsInFolder (steps : List FolderStep) (old new : Outside) : Type 0 where
  pub files : StopsAmong steps old.files new.files
  pub printed : Keeps old.printed new.printed

-- exactly the first bytes are printed
pub record StopsPrint (content : Content) (n : ℕ) (old new : Outside) : Type 0 where
  pub text : List ℕ
  pub is : IsContent content text
  pub within : n ≤ length text
  pub printed : Appends old.printed new.printed (take n text)
  pub files : new.files ≡ old.files

-- the path of one of two texts
abbrev pub path_of : {X : Type 0} → Which → X → X → X
path_of which.Out out undo = out
path_of which.Undo out undo = undo

-- A text that is saved stops at its path: the script of edits, or one of the texts after it.
abbrev pub StopsInOne : Which → List ℕ → List ℕ → List ℕ → List ℕ → Bool → Purpose → List ℕ → Outside → Outside → Type 0
StopsInOne some at script out undo comments purpose file old new =
    ((some ≡ which.Out) × (at ≡ script) × StopsFile script (Edits comments purpose file) old new)
    ⊎ ((at ≡ path_of some out undo) × StopsAfterScript script out undo comments purpose file old new)

-- an action stops after so many bytes of a text at a path, where the last failed save wrote `written` bytes
abbrev pub StopsIn : Action → Which → ℕ → List ℕ → ℕ → Outside → Outside → Type 0
StopsIn (Saves path content) which.Out n at written old new =
    (at ≡ path) × (n ≡ written) × StopsFile path content old new
StopsIn (SavesBoth out undo texts) some n at written old new =
    (at ≡ path_of some out undo) × (n ≡ written) × StopsPair out undo texts old new
StopsIn (SavesAll script out undo comments purpose file) some n at written old new =
    (n ≡ written) × StopsInOne some at script out undo comments purpose file old new
StopsIn (SavesFolder folder force steps) which.Out n at written old new =
    (at ≡ folder) × (n ≡ written) × StopsInFolder steps old new
StopsIn (Prints path content) which.Out n at written old new = (at ≡ path) × StopsPrint content n old new
StopsIn (Checks path b) which.Out n at written old new = (at ≡ standard_output) × StopsPrint (Findings b) n old new
StopsIn action other n at written old new = ⊥

-- ---- a request

-- edits have to be found
abbrev pub FindsEdits : Result Action Why → Type 0
FindsEdits (Ok (SavesBoth out undo (Found purpose file))) = ⊤
FindsEdits (Ok (SavesAll script out undo comments purpose file)) = ⊤
FindsEdits (Ok (Prints path (Edits comments purpose file))) = ⊤
FindsEdits other = ⊥

-- a topic has to be explained, and nothing explains it
abbrev pub PlansUnexplained : Result Action Why → Topic → Type 0
PlansUnexplained planned topic = (planned ≡ Ok (Prints standard_output (Explains topic))) × IsUnexplained topic

-- a folder may not be there already, and something is there
abbrev pub RejectsFolder : World → Result Action Why → List ℕ → Type 0
RejectsFolder w (Ok (SavesFolder folder false steps)) path = (path ≡ folder) × (is_nothing (held_at w folder) ≡ false)
RejectsFolder w other path = ⊥

-- The fault of a request that does nothing is the plan's. It may be out of memory in place of any answer, `PlanFailed` or
-- `Full` where edits have to be found, and an output that can't be read to its end may be rejected as a bank.
abbrev pub IsEarly : World → Result Action Why → Fault → Type 0
IsEarly w planned (Run run.Memory path) = ⊤
IsEarly w planned (Run (run.Write which n) path) = ⊥
IsEarly w planned (Run run.PlanFailed path) = (planned ≡ Err (Fails path.now run.PlanFailed)) ⊎ FindsEdits planned
IsEarly w planned (Run (run.Full limit) path) =
    (planned ≡ Err (Fails path.now (run.Full limit))) ⊎ FindsEdits planned
IsEarly w planned (Run fault path) = planned ≡ Err (Fails path.now fault)
IsEarly w planned (File path fault) = planned ≡ Err (Unread path.now fault)
IsEarly w planned (Output HoldsBank path) = (planned ≡ Err (Rejected path.now HoldsBank)) ⊎ IsUnreadable w path.now
IsEarly w planned (Output fault path) = planned ≡ Err (Rejected path.now fault)
IsEarly w planned (RowFile row why) = planned ≡ Err (UnreadRow row.line (string_bytes row.path) why)
IsEarly w planned (RowRecording row fault) = planned ≡ Err (FailsRow row.line (string_bytes row.path) fault)
IsEarly w planned (FolderThere path) = RejectsFolder w planned path.now
IsEarly w planned (NoNumber number) = PlansUnexplained planned (Number number)
IsEarly w planned (NoName name) = PlansUnexplained planned (Name name)
IsEarly w planned other = ⊥

-- a planned action that is done
pub record IsDone (planned : Result Action Why) (old new : Outside) : Type 0 where
  pub action : Action
  pub is_planned : planned ≡ Ok action
  pub does : Does action old new

-- a planned action that stops in this write fault
pub record IsStopped (planned : Result Action Why) (some : Which) (n : ℕ) (at : List ℕ) (old new : Outside)
    (written : ℕ) : Type 0 where
  pub action : Action
  pub is_planned : planned ≡ Ok action
  pub stops : StopsIn action some n at written old new

-- a planned action that stops since nothing reads the other end of a pipe
pub record IsCutOff (planned : Result Action Why) (old new : Outside) (written : ℕ) : Type 0 where
  pub action : Action
  pub is_planned : planned ≡ Ok action
  pub some : Which
  pub n : ℕ
  pub at : List ℕ
  pub stops : StopsIn action some n at written old new

-- the first steps of a folder are done, or none
pub record SavesSome (steps : List FolderStep) (old new : Outside) : Type 0 where
  pub files : HasSaved steps old.files new.files
  pub printed : Keeps old.printed new.printed

-- a planned check at this path finds something, which is printed
abbrev pub FindsSome : Result Action Why → List ℕ → Outside → Outside → Type 0
FindsSome (Ok (Checks path b)) at old new = (at ≡ path) × PrintsFindings b false old new
FindsSome planned at old new = ⊥

-- An allocation failed. Nothing is changed, but the script of edits may be saved, or the first files of a folder.
abbrev pub StopsForMemory : Result Action Why → Outside → Outside → Type 0
StopsForMemory (Ok (SavesAll script out undo comments purpose file)) old new =
    IsUntouched old new ⊎ SavesFile script (Edits comments purpose file) old new
StopsForMemory (Ok (SavesFolder folder force steps)) old new = SavesSome steps old new
StopsForMemory planned old new = IsUntouched old new

-- What is planned is done; or it stops in a write fault, or for memory; or a check finds something; or nothing is changed,
-- for the fault of the plan.
-- `written` is the count of the last failed save.
abbrev pub EndsAs : {U : Type 0} → World → Result Action Why → Outside → Outside → ℕ → Result U Fault → Type 0
EndsAs w planned old new written (Ok u) = IsDone planned old new
EndsAs w planned old new written (Err (Run (run.Write some n) at)) = IsStopped planned some n at.now old new written
EndsAs w planned old new written (Err (Run run.Memory at)) = StopsForMemory planned old new
EndsAs w planned old new written (Err PipeClosed) = IsCutOff planned old new written
EndsAs w planned old new written (Err (HasFindings at)) = FindsSome planned at.now old new
EndsAs w planned old new written (Err fault) = IsEarly w planned fault × IsUntouched old new

-- the same, as far as the world is known
abbrev pub EndsIn : {U : Type 0} → (World → Result Action Why) → Option World → Outside → Outside → ℕ → Result U Fault
    → Type 0
EndsIn planned None old new written end = ⊤
EndsIn planned (Some w) old new written end = EndsAs w (planned w) old new written end

abbrev pub EndsFor : {U : Type 0} → (World → Result Action Why) → Outside → Outside → ℕ → Result U Fault → Type 0
EndsFor planned old new written end = EndsIn planned old.files old new written end
