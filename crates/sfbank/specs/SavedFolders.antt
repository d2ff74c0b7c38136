-- A folder that is saved step by step.
use Rattle.std.specs.Prelude.{◌≡◌, ◌++◌, ℕ, List, [], ◌∷◌, Option, Some, None, Result, Ok, Err, Bool, true, false, ⊤}
use Rattle.std.specs.Option.{option_map}
use Rattle.file_host.specs.World.{World, IsMade, held_at, is_nothing, with_folder_there, with_text}
use Rattle.file_host.specs.Saving.{Spoils}
use Rattle.file_host.specs.declared.faults.Which.TheVariants as which
use Rattle.program_reports.specs.declared.fault.Fault.{Fault}
use Rattle.program_reports.specs.declared.fault.Fault.TheVariants.{Run, PipeClosed}
use Rattle.program_reports.specs.declared.run_fault.RunFault.TheVariants as run
use Rattle.sfbank.specs.PlanParts.{FolderStep, MakesFolder, SavesFile}

-- the world after a step
abbrev pub saved_step : FolderStep → World → World
saved_step (MakesFolder path) w = with_folder_there path w
saved_step (SavesFile path text) w = with_text path text w

-- the world after steps, in order
abbrev pub saved_steps : List FolderStep → World → World
saved_steps [] w = w
saved_steps (s ∷ steps) w = saved_steps steps (saved_step s w)

-- files may be saved in a folder: it may be there already, or nothing is there
abbrev pub MayWrite : Bool → List ℕ → Option World → Type 0
MayWrite true folder world = ⊤
MayWrite false folder None = ⊤
MayWrite false folder (Some w) = is_nothing (held_at w folder) ≡ true

-- the first of these steps are done, and no other
pub record HasSaved (steps : List FolderStep) (old new : Option World) : Type 0 where
  pub before : List FolderStep
  pub after : List FolderStep
  pub is : steps ≡ before ++ after
  pub files : new ≡ option_map (saved_steps before) old

-- a step that fails makes no folder, or leaves its file as it was or whole
abbrev pub SpoilsStep : FolderStep → Option World → Option World → Type 0
SpoilsStep (MakesFolder path) old new = new ≡ old
SpoilsStep (SavesFile path text) old new = Spoils old new path text

-- the steps before one are done, which fails
pub record StopsAmong (steps : List FolderStep) (old new : Option World) : Type 0 where
  pub before : List FolderStep
  pub at : FolderStep
  pub after : List FolderStep
  pub is : steps ≡ before ++ at ∷ after
  pub spoils : SpoilsStep at (option_map (saved_steps before) old) new

-- All steps are done, or one fails by a write fault, which is reported with the path of the folder, or an allocation fails.
abbrev pub SavesSteps : {U : Type 0} → List ℕ → List FolderStep → Option World → Option World → ℕ → Result U Fault → Type 0
SavesSteps folder steps old new written (Ok u) = new ≡ option_map (saved_steps steps) old
SavesSteps folder steps old new written (Err (Run run.Memory at)) = HasSaved steps old new
SavesSteps folder steps old new written (Err (Run (run.Write which.Out n) at)) =
    (at.now ≡ folder) × (n ≡ written) × StopsAmong steps old new
SavesSteps folder steps old new written (Err PipeClosed) = StopsAmong steps old new
SavesSteps folder steps old new written (Err fault) = ⊥

-- A folder is made, unless something is there, which the result says; or that fails.
abbrev pub MakesAt : List ℕ → List ℕ → Option World → Option World → ℕ → Result Bool Fault → Type 0
MakesAt folder path old new written (Ok is_new) =
    IsMade old path is_new × (new ≡ option_map (with_folder_there path) old)
MakesAt folder path old new written (Err fault) =
    SavesSteps {U = Unit {0}} folder (MakesFolder path ∷ []) old new written (Err fault)
