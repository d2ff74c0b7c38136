-- The script of edits that are found, saved before both texts.
use Rattle.std.proofs.Common.{◌≡◌, ◌∙◌, ℕ, Bool, List, Option, Some, None, Result, Ok, Err, ap, refl, subst, inl, inr}
use Rattle.std.specs.Option.{option_map}
use Rattle.std.proofs.KnownBytes.{Keeps-refl}
use Rattle.sfbank.specs.EditTexts.{edits_text}
use Rattle.file_host.specs.World.{World, with_pair, with_text}
use Rattle.file_host.specs.Saving.{SpoilsPair}
use Rattle.file_host.specs.declared.faults.Which.TheVariants.{Out, Undo}
use Rattle.program_reports.specs.declared.fault.Fault.{Fault}
use Rattle.program_reports.specs.declared.fault.Fault.TheVariants.{Words, NotText, NoNumber, NoName, File, Output, Run, PipeClosed}
use Rattle.program_reports.specs.declared.fault.Fault.TheVariants.{FolderThere, HasFindings, RowFile, RowRecording}
use Rattle.program_reports.specs.declared.run_fault.RunFault.TheVariants as run
use Rattle.sfbank.specs.Outcome.{Done, bank_in}
use Rattle.sfbank.specs.Purposes.{Purpose, promise_of}
use Rattle.sfbank.specs.PlannedEdits.{IsPlanned, IsScript}
use Rattle.sfbank.specs.PlanParts.{SavesAll}
use Rattle.sfbank.specs.Ends.{EndsAs, EndsFor, StopsAfterScript}
use Rattle.sfbank.specs.Outputs.{SavesAt, SavesPairAt}
use Rattle.sfbank.proofs.PlanLaws.{at, untouched}

-- the script can't be saved
script_stops : (w : World) (script out undo : List ℕ) (comments : Bool) (purpose : Purpose) (file text : List ℕ) (new : Option World)
    (printed : Option (List ℕ)) (written : ℕ) (fault : Fault) → IsScript comments (promise_of purpose) file text
    → SavesAt {U = Unit {0}} script text (Some w) new written (Err fault)
    → EndsAs {U = Unit {0}} w (Ok (SavesAll script out undo comments purpose file)) (at (Some w) printed) (at new printed) written (Err fault)
script_stops w script out undo comments purpose file text new printed written (Run (run.Write Out n) p) is h = record {
  action = SavesAll script out undo comments purpose file;
  is_planned = refl;
  stops = (
    h.1,
    inl (refl, h.0, record { text = text; is = is; files = h.2; printed = Keeps-refl printed }),
  );
}
script_stops w script out undo comments purpose file text new printed written (Run run.Memory p) is h =
    inl (untouched (Some w) new printed h)
script_stops w script out undo comments purpose file text new printed written PipeClosed is h = record {
  action = SavesAll script out undo comments purpose file;
  is_planned = refl;
  some = Out;
  n = written;
  at = script;
  stops = (refl, inl (refl, refl, record { text = text; is = is; files = h; printed = Keeps-refl printed }));
}
script_stops w script out undo comments purpose file text new printed written (Run (run.Write Undo n) p) is h = absurd h
script_stops w script out undo comments purpose file text new printed written (Words x) is h = absurd h
script_stops w script out undo comments purpose file text new printed written NotText is h = absurd h
script_stops w script out undo comments purpose file text new printed written (RowFile row why) is h = absurd h
script_stops w script out undo comments purpose file text new printed written (RowRecording row why) is h = absurd h
script_stops w script out undo comments purpose file text new printed written (FolderThere path) is h = absurd h
script_stops w script out undo comments purpose file text new printed written (HasFindings path) is h = absurd h
script_stops w script out undo comments purpose file text new printed written (NoNumber n) is h = absurd h
script_stops w script out undo comments purpose file text new printed written (NoName n) is h = absurd h
script_stops w script out undo comments purpose file text new printed written (File p f) is h = absurd h
script_stops w script out undo comments purpose file text new printed written (Output f p) is h = absurd h
script_stops w script out undo comments purpose file text new printed written (Run (run.Read f) p) is h = absurd h
script_stops w script out undo comments purpose file text new printed written (Run (run.ReadFirst f) p) is h = absurd h
script_stops w script out undo comments purpose file text new printed written (Run (run.ReadSecond f) p) is h = absurd h
script_stops w script out undo comments purpose file text new printed written (Run (run.ReadFrom f) p) is h = absurd h
script_stops w script out undo comments purpose file text new printed written (Run (run.Script f) p) is h = absurd h
script_stops w script out undo comments purpose file text new printed written (Run (run.Notes f) p) is h = absurd h
script_stops w script out undo comments purpose file text new printed written (Run (run.Refused n f) p) is h = absurd h
script_stops w script out undo comments purpose file text new printed written (Run (run.NotNeutral n) p) is h = absurd h
script_stops w script out undo comments purpose file text new printed written (Run run.OtherVersion p) is h = absurd h
script_stops w script out undo comments purpose file text new printed written (Run (run.Recording f) p) is h = absurd h
script_stops w script out undo comments purpose file text new printed written (Run (run.Table f) p) is h = absurd h
script_stops w script out undo comments purpose file text new printed written (Run (run.InRecording i f) p) is h = absurd h
script_stops w script out undo comments purpose file text new printed written (Run (run.NoMember f) p) is h = absurd h
script_stops w script out undo comments purpose file text new printed written (Run (run.Presets f) p) is h = absurd h
script_stops w script out undo comments purpose file text new printed written (Run (run.Full f) p) is h = absurd h
script_stops w script out undo comments purpose file text new printed written (Run run.PlanFailed p) is h = absurd h

pub script_fails : (files new : Option World) (script out undo : List ℕ) (comments : Bool) (purpose : Purpose) (file text : List ℕ)
    (printed : Option (List ℕ)) (written : ℕ) (fault : Fault) → IsScript comments (promise_of purpose) file text
    → SavesAt {U = Unit {0}} script text files new written (Err fault)
    → EndsFor {U = Unit {0}} (λ w. Ok (SavesAll script out undo comments purpose file)) (at files printed) (at new printed) written (Err fault)
script_fails None new script out undo comments purpose file text printed written fault is h = tt
script_fails (Some w) new script out undo comments purpose file text printed written fault is h =
    script_stops w script out undo comments purpose file text new printed written fault is h

-- the script is saved, and both texts stop
after_script : (w : World) (script out undo : List ℕ) (comments : Bool) (purpose : Purpose) (file : List ℕ) (done : Done)
    (found : IsPlanned (promise_of purpose) file done) (mid new : Option World) (printed : Option (List ℕ))
    → mid ≡ option_map (with_text script (edits_text comments (bank_in file) found.edits)) (Some w)
    → SpoilsPair mid new undo done.undo out done.out
    → StopsAfterScript script out undo comments purpose file (at (Some w) printed) (at new printed)
after_script w script out undo comments purpose file done found mid new printed e h = record {
  done = done;
  found = found;
  files = subst (λ (x : Option World). SpoilsPair x new undo done.undo out done.out) e h;
  printed = Keeps-refl printed;
}

-- the script is saved, and then both texts are, or not
pair_ends : (w : World) (script out undo : List ℕ) (comments : Bool) (purpose : Purpose) (file : List ℕ) (done : Done)
    (found : IsPlanned (promise_of purpose) file done) (mid new : Option World) (printed : Option (List ℕ)) (written : ℕ)
    (end : Result (Unit {0}) Fault) → mid ≡ option_map (with_text script (edits_text comments (bank_in file) found.edits)) (Some w)
    → SavesPairAt out undo done mid new written end
    → EndsAs w (Ok (SavesAll script out undo comments purpose file)) (at (Some w) printed) (at new printed) written end
pair_ends w script out undo comments purpose file done found mid new printed written (Ok u) e h = record {
  action = SavesAll script out undo comments purpose file;
  is_planned = refl;
  does = record {
    done = done;
    found = found;
    files = h ∙ ap (option_map (with_pair undo done.undo out done.out)) e;
    printed = Keeps-refl printed;
  };
}
pair_ends w script out undo comments purpose file done found mid new printed written (Err (Run (run.Write some n) p)) e h = record {
  action = SavesAll script out undo comments purpose file;
  is_planned = refl;
  stops = (h.1, inr (h.0, after_script w script out undo comments purpose file done found mid new printed e h.2));
}
pair_ends w script out undo comments purpose file done found mid new printed written (Err (Run run.Memory p)) e h =
    inr (record {
      text = edits_text comments (bank_in file) found.edits;
      is = record { edits = found.edits; promised = found.promised; is_accepted = found.is_accepted; is_text = refl };
      files = h ∙ e;
      printed = Keeps-refl printed;
    })
pair_ends w script out undo comments purpose file done found mid new printed written (Err PipeClosed) e h = record {
  action = SavesAll script out undo comments purpose file;
  is_planned = refl;
  some = Out;
  n = written;
  at = out;
  stops = (refl, inr (refl, after_script w script out undo comments purpose file done found mid new printed e h));
}
pair_ends w script out undo comments purpose file done found mid new printed written (Err (Words x)) e h = absurd h
pair_ends w script out undo comments purpose file done found mid new printed written (Err NotText) e h = absurd h
pair_ends w script out undo comments purpose file done found mid new printed written (Err (RowFile row why)) e h = absurd h
pair_ends w script out undo comments purpose file done found mid new printed written (Err (RowRecording row why)) e h = absurd h
pair_ends w script out undo comments purpose file done found mid new printed written (Err (FolderThere path)) e h = absurd h
pair_ends w script out undo comments purpose file done found mid new printed written (Err (HasFindings path)) e h = absurd h
pair_ends w script out undo comments purpose file done found mid new printed written (Err (NoNumber n)) e h = absurd h
pair_ends w script out undo comments purpose file done found mid new printed written (Err (NoName n)) e h = absurd h
pair_ends w script out undo comments purpose file done found mid new printed written (Err (File p f)) e h = absurd h
pair_ends w script out undo comments purpose file done found mid new printed written (Err (Output f p)) e h = absurd h
pair_ends w script out undo comments purpose file done found mid new printed written (Err (Run (run.Read f) p)) e h = absurd h
pair_ends w script out undo comments purpose file done found mid new printed written (Err (Run (run.ReadFirst f) p)) e h = absurd h
pair_ends w script out undo comments purpose file done found mid new printed written (Err (Run (run.ReadSecond f) p)) e h = absurd h
pair_ends w script out undo comments purpose file done found mid new printed written (Err (Run (run.ReadFrom f) p)) e h = absurd h
pair_ends w script out undo comments purpose file done found mid new printed written (Err (Run (run.Script f) p)) e h = absurd h
pair_ends w script out undo comments purpose file done found mid new printed written (Err (Run (run.Notes f) p)) e h = absurd h
pair_ends w script out undo comments purpose file done found mid new printed written (Err (Run (run.Refused n f) p)) e h = absurd h
pair_ends w script out undo comments purpose file done found mid new printed written (Err (Run (run.NotNeutral n) p)) e h = absurd h
pair_ends w script out undo comments purpose file done found mid new printed written (Err (Run run.OtherVersion p)) e h = absurd h
pair_ends w script out undo comments purpose file done found mid new printed written (Err (Run (run.Recording f) p)) e h = absurd h
pair_ends w script out undo comments purpose file done found mid new printed written (Err (Run (run.Table f) p)) e h = absurd h
pair_ends w script out undo comments purpose file done found mid new printed written (Err (Run (run.InRecording i f) p)) e h = absurd h
pair_ends w script out undo comments purpose file done found mid new printed written (Err (Run (run.NoMember f) p)) e h = absurd h
pair_ends w script out undo comments purpose file done found mid new printed written (Err (Run (run.Presets f) p)) e h = absurd h
pair_ends w script out undo comments purpose file done found mid new printed written (Err (Run (run.Full f) p)) e h = absurd h
pair_ends w script out undo comments purpose file done found mid new printed written (Err (Run run.PlanFailed p)) e h = absurd h

pub all_ends : (files mid new : Option World) (script out undo : List ℕ) (comments : Bool) (purpose : Purpose) (file : List ℕ) (done : Done)
    (found : IsPlanned (promise_of purpose) file done) (printed : Option (List ℕ)) (written : ℕ)
    (end : Result (Unit {0}) Fault) → mid ≡ option_map (with_text script (edits_text comments (bank_in file) found.edits)) files
    → SavesPairAt out undo done mid new written end
    → EndsFor (λ w. Ok (SavesAll script out undo comments purpose file)) (at files printed) (at new printed) written end
all_ends None mid new script out undo comments purpose file done found printed written end e h = tt
all_ends (Some w) mid new script out undo comments purpose file done found printed written end e h =
    pair_ends w script out undo comments purpose file done found mid new printed written end e h
