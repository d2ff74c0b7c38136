-- How an output is written: to a file, to two files, or to the standard output.
use Rattle.std.specs.Prelude.{◌≡◌, ◌⊎◌, ◌≤◌, ℕ, List, length, take, Option, Result, Ok, Err, Bool, true, false}
use Rattle.std.specs.Option.{option_map}
use Rattle.std.specs.Borrow.{Bor}
use Rattle.std.specs.Io.KnownBytes.{Appends, Keeps}
use Rattle.file_host.specs.World.{World, with_text, with_pair}
use Rattle.file_host.specs.Saving.{Spoils, SpoilsPair}
use Rattle.file_host.specs.declared.faults.Which.{Which}
use Rattle.file_host.specs.declared.faults.Which.TheVariants as which
use Rattle.program_commands.specs.declared.explain.Topic.{Topic}
use Rattle.program_commands.specs.declared.explain.Topic.TheVariants.{Number, Name}
use Rattle.program_reports.specs.declared.fault.Fault.{Fault}
use Rattle.program_reports.specs.declared.fault.Fault.TheVariants.{NoNumber, NoName, Run, PipeClosed}
use Rattle.program_reports.specs.declared.run_fault.RunFault.{RunFault}
use Rattle.program_reports.specs.declared.run_fault.RunFault.TheVariants as run
use Rattle.sfbank.specs.Outcome.{Done}
use Rattle.sfbank.specs.Written.{FailsBefore}
use Rattle.sfbank.specs.PlanParts.{standard_output}
use Rattle.sfbank.specs.Topics.{IsTopicText, IsUnexplained}
use Rattle.sfbank.specs.Ends.{path_of}

-- a write fault, which is not reported where the reader of the output closed its pipe
abbrev pub write_fault : Which → ℕ → Bor (List ℕ) → Bool → Fault
write_fault which written path true = PipeClosed
write_fault which written path false = Run (run.Write which written) path

-- exactly the first bytes of a text are written
abbrev pub PrintsFirst : ℕ → List ℕ → Option (List ℕ) → Option (List ℕ) → Type 0
PrintsFirst n text old new = (n ≤ length text) × Appends old new (take n text)

-- a text is printed whole, or its first bytes
abbrev pub PrintsAt : {U : Type 0} → List ℕ → List ℕ → Option (List ℕ) → Option (List ℕ) → Result U Fault → Type 0
PrintsAt path text old new (Ok u) = Appends old new text
PrintsAt path text old new (Err (Run (run.Write which.Out n) at)) = (at.now ≡ path) × PrintsFirst n text old new
PrintsAt path text old new (Err PipeClosed) = (n : ℕ) × PrintsFirst n text old new
PrintsAt path text old new (Err fault) = ⊥

-- a text is printed, or nothing since an allocation failed
abbrev pub PrintsOrFails : {U : Type 0} → List ℕ → Option (List ℕ) → Option (List ℕ) → Result U Fault → Type 0
PrintsOrFails text old new result =
    ((path : Bor (List ℕ)) × (result ≡ Err (Run run.Memory path)) × Keeps old new)
    ⊎ PrintsAt standard_output text old new result

-- a run fails before it prints anything: by its fault, or since an allocation failed
abbrev pub FailsFirst : {U : Type 0} → Result (List ℕ) RunFault → Option (List ℕ) → Option (List ℕ) → Result U Fault
    → Type 0
FailsFirst outcome old new (Ok u) = ⊥
FailsFirst outcome old new (Err fault) =
    (why : RunFault) × (path : Bor (List ℕ)) × (fault ≡ Run why path) × (path.now ≡ standard_output) × FailsBefore why outcome
    × Keeps old new

-- the fault of a topic that is not explained: nothing explains it, or an allocation failed
abbrev pub LacksTopic : Topic → Fault → Type 0
LacksTopic topic fault =
    ((n : ℕ) × (topic ≡ Number n) × (fault ≡ NoNumber n) × IsUnexplained (Number n))
    ⊎ ((name : Bor (List ℕ)) × (topic ≡ Name name) × (fault ≡ NoName name) × IsUnexplained (Name name))
    ⊎ ((path : Bor (List ℕ)) × (fault ≡ Run run.Memory path))

-- nothing is printed, for such a fault
abbrev pub FailsTopic : {U : Type 0} → Topic → Option (List ℕ) → Option (List ℕ) → Result U Fault → Type 0
FailsTopic topic old new (Ok u) = ⊥
FailsTopic topic old new (Err fault) = LacksTopic topic fault × Keeps old new

-- the text about a topic is printed, or the topic is not explained
abbrev pub PrintsExplanation : {U : Type 0} → Topic → Option (List ℕ) → Option (List ℕ) → Result U Fault → Type 0
PrintsExplanation topic old new result =
    FailsTopic topic old new result
    ⊎ ((text : List ℕ) × IsTopicText topic text × PrintsAt standard_output text old new result)

-- the outcome of a run is printed
abbrev pub PrintsOutcome : {U : Type 0} → Result (List ℕ) RunFault → Option (List ℕ) → Option (List ℕ) → Result U Fault
    → Type 0
PrintsOutcome outcome old new result =
    FailsFirst outcome old new result ⊎ ((text : List ℕ) × (outcome ≡ Ok text) × PrintsAt standard_output text old new result)

-- a text is saved whole, or the file is as it was or whole
abbrev pub SavesAt : {U : Type 0} → List ℕ → List ℕ → Option World → Option World → ℕ → Result U Fault → Type 0
SavesAt path text old new written (Ok u) = new ≡ option_map (with_text path text) old
SavesAt path text old new written (Err (Run run.Memory at)) = new ≡ old
SavesAt path text old new written (Err (Run (run.Write which.Out n) at)) =
    (at.now ≡ path) × (n ≡ written) × Spoils old new path text
SavesAt path text old new written (Err PipeClosed) = Spoils old new path text
SavesAt path text old new written (Err fault) = ⊥

-- both texts are saved whole, or each file is as it was or whole
abbrev pub SavesPairAt : {U : Type 0} → List ℕ → List ℕ → Done → Option World → Option World → ℕ → Result U Fault
    → Type 0
SavesPairAt out undo done old new written (Ok u) = new ≡ option_map (with_pair undo done.undo out done.out) old
SavesPairAt out undo done old new written (Err (Run run.Memory at)) = new ≡ old
SavesPairAt out undo done old new written (Err (Run (run.Write which n) at)) =
    (at.now ≡ path_of which out undo) × (n ≡ written) × SpoilsPair old new undo done.undo out done.out
SavesPairAt out undo done old new written (Err PipeClosed) = SpoilsPair old new undo done.undo out done.out
SavesPairAt out undo done old new written (Err fault) = ⊥
