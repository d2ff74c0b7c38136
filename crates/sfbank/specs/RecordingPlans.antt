-- Requests that bring a recording into a bank.
use Rattle.std.specs.Prelude.{◌≡◌, ℕ, List, [], Some, Result}
use Rattle.file_host.specs.declared.input_fault.InputFault.{InputFault}
use Rattle.file_host.specs.World.{World}
use Rattle.program_commands.specs.declared.words.Request.{Request}
use Rattle.sfbank.specs.declared.program.recorded.RecordingWork.{RecordingWork}
use Rattle.sfbank.specs.declared.program.checks.EditPaths.{EditPaths}
use Rattle.wave_file.specs.declared.options.ReadOptions.{ReadOptions}
use Rattle.sfbank.specs.Recordings.{change_of, import_outcome, recording_outcome}
use Rattle.sfbank.specs.PlanParts.{Action, GivesInput, Inputs, Why, with_both, with_input}
use Rattle.sfbank.specs.Plans.{AreInputs, plan}
use Rattle.sfbank.specs.Steps.{edit_part}

-- the plan after the checks of the outputs
abbrev pub recording_plan : RecordingWork → Inputs → Result Action Why
recording_plan work inputs =
    with_input work.paths.input.now inputs.first
    (λ file. with_input work.paths.other.now inputs.second
    (λ wave. with_both work.paths.out.now work.paths.undo.now
    (recording_outcome (change_of work.destination) work.options file wave)))

-- the request does this work: its plan is the plan of the work, for the same two inputs
pub record RecordsBy (work : RecordingWork) (request : Request) : Type 0 where
  pub plans : (w : World) (inputs : Inputs) → plan request w inputs ≡ edit_part work.paths w (recording_plan work inputs)
  pub inputs : (w : World) (r s : Result (List ℕ) InputFault) (others : List (Result (List ℕ) InputFault)) → GivesInput w (Some work.paths.input.now) r
      → GivesInput w (Some work.paths.other.now) s → AreInputs w request (record { first = r; second = s; others = others })

-- the request imports a recording into the bank of these files, under this name
pub record ImportsAs (paths : EditPaths) (options : ReadOptions) (name : List ℕ) (request : Request) : Type 0 where
  pub plans : (w : World) (inputs : Inputs) → plan request w inputs
      ≡ edit_part paths w
      (with_input paths.input.now inputs.first
      (λ file. with_input paths.other.now inputs.second
      (λ wave. with_both paths.out.now paths.undo.now (import_outcome options name file wave))))
  pub inputs : (w : World) (r s : Result (List ℕ) InputFault) (others : List (Result (List ℕ) InputFault)) → GivesInput w (Some paths.input.now) r
      → GivesInput w (Some paths.other.now) s → AreInputs w request (record { first = r; second = s; others = others })
