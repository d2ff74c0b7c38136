-- How a session ends, with its saves in the world of files.
use Rattle.std.specs.Prelude.{◌≡◌, ◌⊎◌, ℕ, List, Option, Some, None, Result, Ok, Err, ⊤}
use Rattle.std.specs.Option.{option_map}
use Rattle.std.specs.Borrow.{Bor}
use Rattle.std.specs.declared.io.ErrorKind.{ErrorKind}
use Rattle.file_host.specs.World.{World, with_stream}
use Rattle.file_host.specs.declared.faults.Which.TheVariants.{Out}
use Rattle.file_host.specs.declared.input_fault.InputFault.TheVariants.{Unreadable}
use Rattle.live_sessions.specs.declared.fault.LiveFault.{LiveFault}
use Rattle.live_sessions.specs.declared.fault.LiveFault.TheVariants as live
use Rattle.live_sessions.specs.declared.saving.SessionFiles.{SessionFiles}
use Rattle.live_sessions.specs.Runs.{Runs}
use Rattle.program_commands.specs.declared.words.LivePaths.{LivePaths}
use Rattle.program_commands.specs.declared.words.Request.TheVariants.{Live}
use Rattle.program_reports.specs.declared.fault.Fault.{Fault}
use Rattle.program_reports.specs.declared.fault.Fault.TheVariants.{File, Run, PipeClosed}
use Rattle.program_reports.specs.declared.run_fault.RunFault.TheVariants as run
use Rattle.sfbank.specs.PlanParts.{Action, Inputs, Why, Plays, standard_output}
use Rattle.sfbank.specs.Plans.{AreInputs, plan}
use Rattle.sfbank.specs.Ends.{Outside, IsUntouched, IsEarly}

-- a fault of this kind that names this path
abbrev pub FaultAt : (Bor (List ℕ) → Fault) → List ℕ → Fault → Type 0
FaultAt fault path reported = (at : Bor (List ℕ)) × (reported ≡ fault at) × (at.now ≡ path)

-- how the fault of a session is reported
abbrev pub IsReportOf : LivePaths → LiveFault → Fault → Type 0
IsReportOf paths (live.File why) reported = FaultAt (Run (run.Read why)) standard_output reported
IsReportOf paths live.Memory reported = FaultAt (Run run.Memory) standard_output reported
IsReportOf paths live.Input reported = FaultAt (λ at. File at Unreadable) standard_output reported
IsReportOf paths (live.Answers n) reported =
    FaultAt (Run (run.Write Out n)) standard_output reported ⊎ (reported ≡ PipeClosed)
IsReportOf paths (live.Pcm n) reported = FaultAt (Run (run.Write Out n)) paths.pcm.now reported

-- the last frames are flushed, or not
abbrev pub EndsFrames : {V : Type 0} → List ℕ → Result V Fault → Type 0
EndsFrames path (Ok v) = ⊤
EndsFrames path (Err fault) = FaultAt (Run (run.Write Out 0)) path fault

-- A session that ends well ends the command well, but where its last frames can't be flushed.
abbrev pub EndsSession : {U V : Type 0} → LivePaths → Result U LiveFault → Result V Fault → Type 0
EndsSession paths (Ok u) end = EndsFrames paths.pcm.now end
EndsSession paths (Err why) (Ok v) = ⊥
EndsSession paths (Err why) (Err fault) = IsReportOf paths why fault

-- the files that no save of a session may replace
abbrev pub files_of : LivePaths → SessionFiles
files_of paths = record { bank = paths.input; pcm = paths.pcm; force = paths.force }

-- a session on a bank's file, whose saves change the world
pub record RunsSession {V : Type 0} (paths : LivePaths) (file : List ℕ) (old new : Outside) (written : ℕ)
    (end : Result V Fault) : Type 0 where
  pub input : Option (List ℕ)
  pub input_new : Option (List ℕ)
  pub pcm : Option (List ℕ)
  pub pcm_new : Option (List ℕ)
  pub was_written : ℕ
  pub failure : Option ErrorKind
  pub result : Result (Unit {0}) LiveFault
  pub runs : Runs (files_of paths) file
      (record {
        input = input;
        answers = old.printed;
        pcm = pcm;
        files = old.files;
        written = was_written;
      })
      (record { input = input_new; answers = new.printed; pcm = pcm_new; files = new.files; written = written }) failure
      result
  pub ends : EndsSession paths result end

-- what is outside once the frames are written as a stream
abbrev pub with_frames : LivePaths → Outside → Outside
with_frames paths old = record { files = option_map (with_stream paths.pcm.now) old.files; printed = old.printed }

abbrev pub IsSession : {V : Type 0} → LivePaths → List ℕ → Outside → Outside → ℕ → Result V Fault → Type 0
IsSession paths file old new written end = RunsSession paths file (with_frames paths old) new written end

-- an allocation failed before the session began
abbrev pub StopsInMemory : {V : Type 0} → Outside → Outside → Result V Fault → Type 0
StopsInMemory old new (Err (Run run.Memory at)) = IsUntouched old new
StopsInMemory old new end = ⊥

abbrev pub PlaysOrNot : {V : Type 0} → LivePaths → List ℕ → Outside → Outside → ℕ → Result V Fault → Type 0
PlaysOrNot paths file old new written end =
    StopsInMemory old new end ⊎ IsSession paths file old new written end

-- A session is played as it is planned.
pub record PlaysPlan {V : Type 0} (paths : LivePaths) (planned : Result Action Why) (old new : Outside) (written : ℕ)
    (end : Result V Fault) : Type 0 where
  pub file : List ℕ
  pub is_planned : planned ≡ Ok (Plays paths file)
  pub plays : IsSession paths file old new written end

-- nothing is changed, for the fault of the plan
abbrev pub StopsEarly : {V : Type 0} → World → Result Action Why → Outside → Outside → Result V Fault → Type 0
StopsEarly w planned old new (Ok v) = ⊥
StopsEarly w planned old new (Err fault) = IsEarly w planned fault × IsUntouched old new

-- a session is played as it is planned for what its input gives, or nothing is changed
pub record MeansIn {V : Type 0} (paths : LivePaths) (w : World) (old new : Outside) (written : ℕ) (end : Result V Fault)
    : Type 0 where
  pub inputs : Inputs
  pub given : AreInputs w (Live paths) inputs
  pub ends : StopsEarly w (plan (Live paths) w inputs) old new end
      ⊎ PlaysPlan paths (plan (Live paths) w inputs) old new written end

-- the same, as far as the world is known
abbrev pub MeansLiveIn : {V : Type 0} → LivePaths → Option World → Outside → Outside → ℕ → Result V Fault → Type 0
MeansLiveIn paths None old new written end = ⊤
MeansLiveIn paths (Some w) old new written end = MeansIn paths w old new written end

abbrev pub MeansLive : {V : Type 0} → LivePaths → Outside → Outside → ℕ → Result V Fault → Type 0
MeansLive paths old new written end = MeansLiveIn paths old.files old new written end
