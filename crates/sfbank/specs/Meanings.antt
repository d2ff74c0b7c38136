-- How a request ends, and what the program reports.
use Rattle.std.specs.Prelude.{◌≡◌, ◌⊎◌, ℕ, List, Option, Some, None, Result, Ok, Err, Bool, true, ◌||◌, ⊤}
use Rattle.std.specs.Io.KnownBytes.{Keeps}
use Rattle.clap.specs.Words.{HasKind, fault_of, subcommand_of}
use Rattle.clap.specs.declared.error.Error.{Error}
use Rattle.file_host.specs.World.{World}
use Rattle.program_commands.specs.Commands.{sfbank_app}
use Rattle.program_commands.specs.Words.{AsksFor, AsksForNone, asks_for_explanations}
use Rattle.program_commands.specs.declared.words.Request.{Request}
use Rattle.program_commands.specs.declared.words.Request.TheVariants.{Live}
use Rattle.program_reports.specs.declared.fault.Fault.{Fault}
use Rattle.program_reports.specs.Reporting.{Ends, Reports, status_of}
use Rattle.sfbank.specs.PlanParts.{Inputs}
use Rattle.sfbank.specs.Plans.{AreInputs, plan}
use Rattle.sfbank.specs.Ends.{Outside, EndsFor}
use Rattle.sfbank.specs.LiveRuns.{MeansLive}

abbrev pub AreInputsOf : Option World → Request → Inputs → Type 0
AreInputsOf None request inputs = ⊤
AreInputsOf (Some w) request inputs = AreInputs w request inputs

-- A request ends as it is planned for what its inputs give.
pub record MeansPlan {U : Type 0} (request : Request) (old new : Outside) (written : ℕ) (end : Result U Fault) : Type 0 where
  pub inputs : Inputs
  pub given : AreInputsOf old.files request inputs
  pub ends : EndsFor (λ w. plan request w inputs) old new written end

-- how a request ends
abbrev pub Means : {U : Type 0} → Request → Outside → Outside → ℕ → Result U Fault → Type 0
Means (Live paths) old new written end = MeansLive paths old new written end
Means request old new written end = MeansPlan request old new written end

-- ---- the program

-- faults are explained on a terminal, or if the words ask for that
abbrev pub is_explained : Bool → List (List ℕ) → Bool
is_explained is_terminal words = is_terminal || asks_for_explanations words

-- a run ends, and its fault is explained at least on a terminal
abbrev pub EndsExplained : Bool → Option (List ℕ) → Option (List ℕ) → ℕ → Type 0
EndsExplained is_terminal errors errors_new status =
    (explains : Bool) × (is_terminal ≡ true → explains ≡ true) × Ends explains errors errors_new status

-- the exit status, and what is reported
abbrev pub IsReported : {U : Type 0} → Bool → Option (List ℕ) → Option (List ℕ) → ℕ → Result U Fault → Type 0
IsReported explains errors errors_new status (Ok u) = (status ≡ 0) × Keeps errors errors_new
IsReported explains errors errors_new status (Err fault) =
    (status ≡ status_of fault) × Reports explains errors errors_new fault

-- the words ask for a request, which ends as it means, and that is reported
pub record AnswersRequest (words : List (List ℕ)) (is_terminal : Bool) (old new : Outside) (written : ℕ)
    (errors errors_new : Option (List ℕ)) (status : ℕ) : Type 0 where
  pub request : Request
  pub asks : AsksFor (subcommand_of sfbank_app words) request
  pub end : Result (Unit {0}) Fault
  pub means : Means request old new written end
  pub reported : IsReported (is_explained is_terminal words) errors errors_new status end

-- the words ask for no request: no file is changed, and help, the version or the fault of the words is answered
pub record AnswersNone (words : List (List ℕ)) (is_terminal : Bool) (old new : Outside) (errors errors_new : Option (List ℕ))
    (status : ℕ) : Type 0 where
  pub error : Error
  pub asks : HasKind (fault_of sfbank_app words) error ⊎ AsksForNone (subcommand_of sfbank_app words)
  pub files : new.files ≡ old.files
  pub end : Result (Unit {0}) Fault
  pub reported : IsReported (is_explained is_terminal words) errors errors_new status end

-- how the program answers its words
abbrev pub Answers : List (List ℕ) → Bool → Outside → Outside → ℕ → Option (List ℕ) → Option (List ℕ) → ℕ → Type 0
Answers words is_terminal old new written errors errors_new status =
    AnswersRequest words is_terminal old new written errors errors_new status
    ⊎ AnswersNone words is_terminal old new errors errors_new status
