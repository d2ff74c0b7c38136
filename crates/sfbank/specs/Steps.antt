-- The steps of a request before it does anything: checks of its outputs, and reads of its inputs.
use Rattle.std.specs.Prelude.{◌≡◌, ◌≤◌, ◌||◌, ℕ, List, [], ◌∷◌, length, Option, Some, None, Result, Ok, Err, ⊤}
use Rattle.std.specs.Borrow.{Bor}
use Rattle.std.specs.Result.{result_map_both}
use Rattle.base_outputs.specs.declared.output_fault.OutputFault.{OutputFault}
use Rattle.sf_base.specs.declared.memory.Failure.{Failure}
use Rattle.sf_base.specs.declared.memory.Failure.TheVariants as failures
use Rattle.file_host.specs.World.{World, Gives}
use Rattle.file_host.specs.Checks.{is_one_file}
use Rattle.program_commands.specs.declared.words.LivePaths.{LivePaths}
use Rattle.program_commands.specs.declared.words.PlayPaths.{PlayPaths}
use Rattle.bank_parts.specs.declared.parts.Parts.{Parts}
use Rattle.bank_format.specs.declared.fault.Counts.{Counts}
use Rattle.bank_format.specs.ReadChecks.{ReadsAs, fault_of}
use Rattle.program_reports.specs.declared.fault.Fault.{Fault}
use Rattle.program_reports.specs.declared.fault.Fault.TheVariants.{File, Output, Run}
use Rattle.program_reports.specs.declared.run_fault.RunFault.{RunFault}
use Rattle.program_reports.specs.declared.run_fault.RunFault.TheVariants as run
use Rattle.edit_forms.specs.declared.edit.Edit.{Edit}
use Rattle.script_tokens.specs.Pool.{pool_bytes}
use Rattle.wave_file.specs.declared.recording.Recording.{Recording}
use Rattle.wave_file.specs.declared.options.ReadOptions.{ReadOptions}
use Rattle.wave_file.specs.declared.sides.Sides.{Sides}
use Rattle.wave_file.specs.ReadChecks.{recording_in}
use Rattle.wave_file.specs.Imports.{sides_of}
use Rattle.wave_file.specs.InPlace.{with_points}
use Rattle.program_commands.specs.declared.words.Forms.{Forms}
use Rattle.sfbank.specs.EditRuns.{outcome_of}
use Rattle.sfbank.specs.Outcome.{after_reading}
use Rattle.sfbank.specs.Differences.{after_file}
use Rattle.sfbank.specs.Recordings.{Change, recording_outcome}
use Rattle.sfbank.specs.Purposes.{Purpose, keeping_played}
use Rattle.script_notes.specs.Notes.{Numbers, notes_of}
use Rattle.program_commands.specs.declared.plans.Zones.{Zones}
use Rattle.sfbank.specs.Written.{FailsBefore}
use Rattle.sfbank.specs.declared.program.checks.EditPaths.{EditPaths}
use Rattle.sfbank.specs.PlanParts.{Action, Inputs, Why, apart, no_bank, with_input}
use Rattle.sfbank.specs.Ends.{IsEarly}

-- a part of a plan that comes before the rest of it
abbrev pub Part : Type 0
Part = World → Result Action Why → Result Action Why

-- A part passes, so that the rest follows; or it stops in its fault, whatever the rest is.
abbrev pub PassesIn : {U : Type 0} → Part → Option World → Result U Fault → Type 0
PassesIn part None result = ⊤
PassesIn part (Some w) (Ok u) = (rest : Result Action Why) → part w rest ≡ rest
PassesIn part (Some w) (Err fault) = (rest : Result Action Why) → IsEarly w (part w rest) fault

-- the same, and no file is changed
abbrev pub Passes : {U : Type 0} → Part → Option World → Option World → Result U Fault → Type 0
Passes part old new result = PassesIn part old result × (new ≡ old)

-- the checks of the undo script of an edit of a bank by another input
abbrev pub undo_part : EditPaths → Part
undo_part p w rest =
    apart w p.undo.now (p.input.now ∷ p.other.now ∷ p.out.now ∷ []) (no_bank w p.undo.now p.force rest)

-- the checks of both outputs
abbrev pub edit_part : EditPaths → Part
edit_part p w rest = apart w p.out.now (p.other.now ∷ []) (undo_part p w rest)

-- the checks of the output of `play`, which may be its bank
abbrev pub play_part : PlayPaths → Part
play_part p w rest =
    apart w p.out.now (p.notes.now ∷ []) (no_bank w p.out.now (p.force || is_one_file w p.out.now p.input.now) rest)

-- the checks of the frames of `live`
abbrev pub live_part : LivePaths → Part
live_part p w rest = apart w p.pcm.now (p.input.now ∷ []) (no_bank w p.pcm.now p.force rest)

-- the fault of a check of the output at this path
abbrev pub fault_of_check : Failure OutputFault → Bor (List ℕ) → Fault
fault_of_check (failures.Fault fault) path = Output fault path
fault_of_check failures.OutOfMemory path = Run run.Memory path

-- An input can't be read. No file is changed.
abbrev pub FailsInput : Option World → Option World → List ℕ → Fault → Type 0
FailsInput old new path (File at why) = (at.now ≡ path) × Gives old path (Err why) × (new ≡ old)
FailsInput old new path (Run run.Memory at) = new ≡ old
FailsInput old new path fault = ⊥

-- The bytes of an input, or its fault. No file is changed.
abbrev pub ReadsInput : {X : Type 0} → (X → List ℕ) → Option World → Option World → List ℕ → Result X Fault → Type 0
ReadsInput view old new path (Ok x) = Gives old path (Ok (view x)) × (new ≡ old)
ReadsInput view old new path (Err fault) = FailsInput old new path fault

-- what reads of two inputs give, the first at one path, the second at another
abbrev pub AreGiven : Option World → List ℕ → List ℕ → Inputs → Type 0
AreGiven world first second inputs = Gives world first inputs.first × Gives world second inputs.second

-- Both inputs are read, or the plan stops in this fault, whatever the rest of it is.
pub record StopsInInputs (world : Option World) (first second : List ℕ) (fault : Fault) : Type 0 where
  pub inputs : Inputs
  pub given : AreGiven world first second inputs
  pub stops : (w : World) (rest : List ℕ → List ℕ → Result Action Why)
      → IsEarly w (with_input first inputs.first (λ a. with_input second inputs.second (rest a))) fault

abbrev pub ReadsTwo : {X Y : Type 0} → (X → List ℕ) → (Y → List ℕ) → Option World → Option World → List ℕ → List ℕ
    → Result (X × Y) Fault → Type 0
ReadsTwo view other old new first second (Ok both) =
    AreGiven old first second (record { first = Ok (view both.0); second = Ok (other both.1); others = [] }) × (new ≡ old)
ReadsTwo view other old new first second (Err fault) = StopsInInputs old first second fault × (new ≡ old)

-- a file reads as this bank
abbrev pub IsReadAs : List ℕ → Parts → Type 0
IsReadAs file bank = (counts : Counts) × ReadsAs file bank counts

-- A file's bytes read as a bank, or this is their first fault.
abbrev pub ReadsBank : {X : Type 0} → (X → Parts × Counts) → List ℕ → Result X RunFault → Type 0
ReadsBank view file (Ok x) = ReadsAs file (view x).0 (view x).1
ReadsBank view file (Err (run.Read fault)) = fault_of file ≡ Some fault
ReadsBank view file (Err run.Memory) = ⊤
ReadsBank view file (Err fault) = ⊥

-- ---- what two inputs are read as, before an edit

-- a bank and the literals of a script, or the fault of any run of them
abbrev pub ReadsScript : {X : Type 0} → (X → Parts × List ℕ) → List ℕ → List ℕ → Result X RunFault → Type 0
ReadsScript view file script (Ok x) =
    IsReadAs file (view x).0 × (pool_bytes script ≡ Ok (view x).1)
ReadsScript view file script (Err fault) = (forms : Forms) → FailsBefore fault (outcome_of forms file script)

-- a bank and a recording with its sides, or the fault of any change by the recording
abbrev pub ReadsRecording : {X : Type 0} → (X → Parts × Recording × Sides) → ReadOptions → List ℕ → List ℕ
    → Result X RunFault → Type 0
ReadsRecording view options file wave (Ok x) =
    IsReadAs file (view x).0 × (recording_in options wave ≡ Ok (view x).1) × ((view x).2 ≡ sides_of (view x).1.channels)
ReadsRecording view options file wave (Err fault) =
    (change : Change) → FailsBefore fault (recording_outcome change options file wave)

-- The same, with the points of the recording, without regard to whether they are converted: no edit depends on that.
abbrev pub ReadsInPlace : {X : Type 0} → (X → Parts × Recording × Sides) → ReadOptions → List ℕ → List ℕ
    → Result X RunFault → Type 0
ReadsInPlace view options file wave (Ok x) =
    IsReadAs file (view x).0
    × (result_map_both with_points (λ fault. fault) (recording_in options wave) ≡ Ok (with_points (view x).1))
    × ((view x).2 ≡ sides_of (view x).1.channels)
ReadsInPlace view options file wave (Err fault) =
    (change : Change) → FailsBefore fault (recording_outcome change options file wave)

-- the edits of a change, or its fault
abbrev pub IsChange : {X : Type 0} → (X → List Edit) → Result (List Edit) RunFault → Result X RunFault → Type 0
IsChange view change (Ok x) = change ≡ Ok (view x)
IsChange view change (Err fault) = FailsBefore fault change

-- two banks, the second to copy presets of, or the fault of any plan for them
abbrev pub ReadsBoth : {X : Type 0} → (X → Parts × Parts) → List ℕ → List ℕ → Result X RunFault → Type 0
ReadsBoth view file other (Ok x) = IsReadAs file (view x).0 × IsReadAs other (view x).1
ReadsBoth view file other (Err fault) =
    (rest : Result Purpose RunFault)
    → FailsBefore fault (after_reading (fault_of file) (after_file run.ReadFrom (fault_of other) rest))

-- a bank and notes, or the fault of any plan that keeps what these play
abbrev pub ReadsNotes : {X : Type 0} → (X → Parts) → (X → List Numbers) → List ℕ → List ℕ → Result X RunFault → Type 0
ReadsNotes bank notes file text (Ok x) = IsReadAs file (bank x) × (notes_of text ≡ Ok (notes x))
ReadsNotes bank notes file text (Err fault) = (zones : Zones) → FailsBefore fault (keeping_played zones file text)

-- a bank, and the purpose for which edits are wanted, or the fault
abbrev pub Wants : {X : Type 0} → (X → Parts) → (X → Purpose) → List ℕ → Result Purpose RunFault → Result X RunFault
    → Type 0
Wants bank purpose file wanted (Ok x) = IsReadAs file (bank x) × (wanted ≡ Ok (purpose x))
Wants bank purpose file wanted (Err fault) = FailsBefore fault wanted
