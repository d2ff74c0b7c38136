-- How the steps of `live` make its end.
use Rattle.std.proofs.Common.{◌≡◌, ℕ, List, Option, Some, None, Result, Ok, Err, refl, sym, subst, ◌∙◌, inl, inr}
use Rattle.file_host.specs.World.{World, Gives, file_at}
use Rattle.program_commands.specs.declared.words.LivePaths.{LivePaths}
use Rattle.program_commands.specs.declared.words.Request.TheVariants.{Live}
use Rattle.program_reports.specs.declared.fault.Fault.{Fault}
use Rattle.program_reports.specs.declared.fault.Fault.TheVariants.{Words, NotText, NoNumber, NoName, File, Output, Run, PipeClosed}
use Rattle.program_reports.specs.declared.fault.Fault.TheVariants.{FolderThere, HasFindings, RowFile, RowRecording}
use Rattle.program_reports.specs.declared.run_fault.RunFault.TheVariants as run
use Rattle.sfbank.specs.PlanParts.{Action, Why, Plays, with_input}
use Rattle.sfbank.specs.Plans.{plan}
use Rattle.sfbank.specs.Ends.{Outside, IsEarly}
use Rattle.sfbank.specs.Steps.{Passes, FailsInput, live_part}
use Rattle.sfbank.specs.LiveRuns.{MeansLive, PlaysOrNot, StopsEarly, StopsInMemory}
use Rattle.sfbank.proofs.PlanLaws.{at, twice, untouched, given_before, input_stops}

-- the rest of the plan, for the bytes of its input
abbrev begins : LivePaths → List ℕ → Result Action Why
begins p file = Ok (Plays p file)

pub checks_stop_live : (p : LivePaths) (old new : Option World) (printed : Option (List ℕ)) (written : ℕ) (fault : Fault)
    → Passes {U = Unit {0}} (live_part p) old new (Err fault)
    → MeansLive {V = Unit {0}} p (at old printed) (at new printed) written (Err fault)
checks_stop_live p None new printed written fault h = tt
checks_stop_live p (Some w) new printed written fault h = record {
  inputs = twice (file_at w p.input.now);
  given = (λ s. refl, tt, tt);
  ends = inl (h.0 (with_input p.input.now (file_at w p.input.now) (begins p)), untouched (Some w) new printed h.1);
}

pub input_stops_live : (p : LivePaths) (old before new : Option World) (printed : Option (List ℕ)) (written : ℕ)
    (fault : Fault) (u : Unit {0}) → Passes (live_part p) old before (Ok u) → FailsInput before new p.input.now fault
    → MeansLive {V = Unit {0}} p (at old printed) (at new printed) written (Err fault)
input_stops_live p None before new printed written fault u pass read = tt
input_stops_live p (Some w) before new printed written fault u pass read =
    let s = input_stops before new p.input.now fault read in
    let planned = with_input p.input.now s.0.given (begins p) in
    record {
      inputs = twice s.0.given;
      given = (given_before (Some w) before p.input.now s.0.given pass.1 s.0.is_given, tt, tt);
      ends = inl (
        subst (λ (r : Result Action Why). IsEarly w r fault) (sym (pass.0 planned)) (s.0.stops w (begins p)),
        untouched (Some w) new printed (s.1 ∙ pass.1),
      );
    }

-- an allocation failed before the session began
memory_stops : (p : LivePaths) (w : World) (planned : Result Action Why) (old new : Outside) (end : Result (Unit {0}) Fault)
    → StopsInMemory old new end → StopsEarly w planned old new end
memory_stops p w planned old new (Err (Run run.Memory path)) h = (tt, h)
memory_stops p w planned old new (Ok u) h = absurd h
memory_stops p w planned old new (Err (Words e)) h = absurd h
memory_stops p w planned old new (Err NotText) h = absurd h
memory_stops p w planned old new (Err (RowFile row why)) h = absurd h
memory_stops p w planned old new (Err (RowRecording row why)) h = absurd h
memory_stops p w planned old new (Err (FolderThere path)) h = absurd h
memory_stops p w planned old new (Err (HasFindings path)) h = absurd h
memory_stops p w planned old new (Err (NoNumber n)) h = absurd h
memory_stops p w planned old new (Err (NoName n)) h = absurd h
memory_stops p w planned old new (Err (File path f)) h = absurd h
memory_stops p w planned old new (Err (Output f path)) h = absurd h
memory_stops p w planned old new (Err PipeClosed) h = absurd h
memory_stops p w planned old new (Err (Run (run.Read f) path)) h = absurd h
memory_stops p w planned old new (Err (Run (run.ReadFirst f) path)) h = absurd h
memory_stops p w planned old new (Err (Run (run.ReadSecond f) path)) h = absurd h
memory_stops p w planned old new (Err (Run (run.Script f) path)) h = absurd h
memory_stops p w planned old new (Err (Run (run.Refused n f) path)) h = absurd h
memory_stops p w planned old new (Err (Run (run.NotNeutral n) path)) h = absurd h
memory_stops p w planned old new (Err (Run run.OtherVersion path)) h = absurd h
memory_stops p w planned old new (Err (Run run.PlanFailed path)) h = absurd h
memory_stops p w planned old new (Err (Run (run.ReadFrom f) path)) h = absurd h
memory_stops p w planned old new (Err (Run (run.Presets f) path)) h = absurd h
memory_stops p w planned old new (Err (Run (run.Full f) path)) h = absurd h
memory_stops p w planned old new (Err (Run (run.Notes f) path)) h = absurd h
memory_stops p w planned old new (Err (Run (run.Recording f) path)) h = absurd h
memory_stops p w planned old new (Err (Run (run.Table f) path)) h = absurd h
memory_stops p w planned old new (Err (Run (run.InRecording i f) path)) h = absurd h
memory_stops p w planned old new (Err (Run (run.NoMember f) path)) h = absurd h
memory_stops p w planned old new (Err (Run (run.Write f n) path)) h = absurd h

pub session_ends : (p : LivePaths) (old before mid : Option World) (printed : Option (List ℕ)) (new : Outside) (written : ℕ)
    (file : List ℕ) (end : Result (Unit {0}) Fault) (u : Unit {0})
    → Passes (live_part p) old before (Ok u) → Gives before p.input.now (Ok file) × (mid ≡ before)
    → PlaysOrNot p file (at mid printed) new written end
    → MeansLive p (at old printed) new written end
session_ends p None before mid printed new written file end u pass read h = tt
session_ends p (Some w) before mid printed new written file end u pass read h =
    let here : PlaysOrNot p file (at (Some w) printed) new written end =
    subst (λ (x : Option World). PlaysOrNot p file (at x printed) new written end) (read.1 ∙ pass.1) h in
    let planned : plan (Live p) w (twice (Ok file)) ≡ Ok (Plays p file) = pass.0 (begins p file) in
    record {
      inputs = twice (Ok file);
      given = (given_before (Some w) before p.input.now (Ok file) pass.1 read.0, tt, tt);
      ends =
          elim here [
            | inl m ↦ inl (memory_stops p w (plan (Live p) w (twice (Ok file))) (at (Some w) printed) new end m)
            | inr s ↦ inr (record { file = file; is_planned = planned; plays = s })
          ];
    }
