-- How the steps of a request make the end of a folder that is packed.
use Rattle.std.proofs.Common.{◌≡◌, ◌∙◌, ℕ, List, [], ◌∷◌, map, get_or, Option, Some, None, Result, Ok, Err}
use Rattle.std.proofs.Common.{ap, refl, subst, sym}
use Rattle.std.specs.List.{AllZip}
use Rattle.bank_parts.specs.declared.parts.Parts.{Parts}
use Rattle.bank_format.specs.declared.fault.Counts.{Counts}
use Rattle.bank_format.specs.declared.fault.ReadFault.{ReadFault}
use Rattle.bank_format.specs.Reading.{Content}
use Rattle.bank_format.specs.ReadChecks.{ReadsAs}
use Rattle.edit_script.specs.Script.{script_of}
use Rattle.file_host.specs.World.{World, Gives, file_at}
use Rattle.file_host.specs.declared.input_fault.InputFault.{InputFault}
use Rattle.file_host.specs.declared.input_fault.InputFault.TheVariants.{NotFound}
use Rattle.program_commands.specs.declared.words.PackPaths.{PackPaths}
use Rattle.program_commands.specs.declared.words.Request.TheVariants.{Pack}
use Rattle.program_reports.specs.declared.fault.Fault.{Fault}
use Rattle.program_reports.specs.declared.fault.Fault.TheVariants.{Run}
use Rattle.program_reports.specs.declared.run_fault.RunFault.{RunFault}
use Rattle.program_reports.specs.declared.run_fault.RunFault.TheVariants as run
use Rattle.sfbank.specs.Ends.{Outside, IsEarly, EndsAs, EndsFor}
use Rattle.sfbank.specs.FolderPlans.{bank_outcome, entries_due, entries_in_text, entries_of_text, entries_or_none, entries_plan}
use Rattle.sfbank.specs.FolderPlans.{lines_plan, pack_apart, pack_plan, text_entry, text_path, with_entry, with_packed}
use Rattle.sfbank.specs.Folders.{lines_read, pack_outcome}
use Rattle.sfbank.specs.FolderSteps.{EndsEntries, EndsPack, EndsText}
use Rattle.sfbank.specs.KitPlans.{Entry, GiveWaves, paths_of, with_waves}
use Rattle.sfbank.specs.KitSteps.{FailsEntry, FileRead, IsOfKit, IsReadOf, StopsAtEntry}
use Rattle.sfbank.specs.Meanings.{MeansPlan}
use Rattle.sfbank.specs.Outcome.{after_reading, bank_in}
use Rattle.sfbank.specs.PlanParts.{Action, Inputs, GivesInput, Text, Why, apart, put_at}
use Rattle.sfbank.specs.Steps.{Passes}
use Rattle.sfbank.specs.Written.{FailsBefore}
use Rattle.sfbank.proofs.Endings.{fails_through}
use Rattle.sfbank.proofs.KitPlans.{StopsGiven, all_given, files_given, given_files, given_waves, recorded_fails, stops_given}
use Rattle.sfbank.proofs.KitPlans.{waves_pass}
use Rattle.sfbank.proofs.OutcomeLaws.{outcome_fails}
use Rattle.sfbank.proofs.PlanLaws.{at, ends_early, nothing, untouched}

-- ---- a request

-- the end of a folder is what its request means
pub pack_means : (p : PackPaths) (old : Option World) (printed : Option (List ℕ)) (new : Outside) (written : ℕ)
    (end : Result (Unit {0}) Fault)
    → EndsPack p (at old printed) new written end → MeansPlan (Pack p) (at old printed) new written end
pack_means p None printed new written end h = record { inputs = nothing; given = tt; ends = tt }
pack_means p (Some w) printed new written end h =
    record { inputs = h.inputs; given = (h.given_text, tt, h.given_waves); ends = h.ends }

-- ---- the checks of the output

pub pack_rejected : (p : PackPaths) (old new : Option World) (printed : Option (List ℕ)) (written : ℕ) (fault : Fault)
    → Passes {U = Unit {0}} (pack_apart p) old new (Err fault)
    → EndsPack {U = Unit {0}} p (at old printed) (at new printed) written (Err fault)
pack_rejected p None new printed written fault h = tt
pack_rejected p (Some w) new printed written fault h =
    let text = file_at w (text_path p.folder.now) in
    let entries = entries_of_text p.folder.now text in
    let inputs : Inputs = record { first = text; second = Err NotFound; others = given_waves w entries } in
    record {
      inputs = inputs;
      given_text = λ s. refl;
      given_waves = all_given w entries;
      ends = ends_early w (pack_plan p inputs w) (at (Some w) printed) (at new printed) written fault
          (h.0
          (with_entry (text_entry p.folder.now) inputs.first
          (λ bytes. lines_plan p bytes inputs.others w (entries_in_text p.folder.now bytes))))
          (untouched (Some w) new printed h.1);
    }

-- ---- the text

-- one entry is read as a list of one is
one_entry : (e : Entry) (given : Result (List ℕ) InputFault) (rest : List ℕ → Result Action Why)
    → with_entry e given rest ≡ with_waves (e ∷ []) (given ∷ []) (λ waves. rest (get_or waves 0 []))
one_entry e (Ok bytes) rest = refl
one_entry e (Err why) rest = refl

-- an entry can't be read, and the plan stops in this fault
record StopsEntry (w : World) (e : Entry) (fault : Fault) : Type 0 where
  given : Result (List ℕ) InputFault
  gives : GivesInput w (Some e.path) given
  stops : (rest : List ℕ → Result Action Why) → IsEarly w (with_entry e given rest) fault

stops_entry : (w : World) (e : Entry) (fault : Fault) → FailsEntry (Some w) e fault → StopsEntry w e fault
stops_entry w e fault h =
    let s = stops_given w [] [] e [] fault tt h in by_given s.given s.gives s.stops
  where
    by_given : (given : List (Result (List ℕ) InputFault)) → GiveWaves w (e ∷ []) given
        → ((rest : List (List ℕ) → Result Action Why) → IsEarly w (with_waves (e ∷ []) given rest) fault)
        → StopsEntry w e fault
    by_given [] gives stops = absurd gives
    by_given (g ∷ []) gives stops = record {
      given = g;
      gives = gives.0;
      stops = λ rest. subst (λ (x : Result Action Why). IsEarly w x fault) (sym (one_entry e g rest))
          (stops (λ waves. rest (get_or waves 0 [])));
    }
    by_given (g ∷ k ∷ more) gives stops = absurd gives.1

pub text_unread : (p : PackPaths) (old mid new : Option World) (printed : Option (List ℕ)) (written : ℕ) (fault : Fault)
    (u : Unit {0})
    → Passes (pack_apart p) old mid (Ok u) → FailsEntry mid (text_entry p.folder.now) fault × (new ≡ mid)
    → EndsPack {U = Unit {0}} p (at old printed) (at new printed) written (Err fault)
text_unread p None mid new printed written fault u pass read = tt
text_unread p (Some w) mid new printed written fault u pass read =
    let here = subst (λ (x : Option World). FailsEntry x (text_entry p.folder.now) fault) pass.1 read.0 in
    let s = stops_entry w (text_entry p.folder.now) fault here in
    let entries = entries_of_text p.folder.now s.given in
    let inputs : Inputs = record { first = s.given; second = Err NotFound; others = given_waves w entries } in
    let rest : List ℕ → Result Action Why = λ bytes. lines_plan p bytes inputs.others w (entries_in_text p.folder.now bytes) in
    record {
      inputs = inputs;
      given_text = s.gives;
      given_waves = all_given w entries;
      ends = ends_early w (pack_plan p inputs w) (at (Some w) printed) (at new printed) written fault
          (subst (λ (x : Result Action Why). IsEarly w x fault)
          (sym (pass.0 (with_entry (text_entry p.folder.now) s.given rest))) (s.stops rest))
          (untouched (Some w) new printed (read.1 ∙ pass.1));
    }

pub text_ends : (p : PackPaths) (text : List ℕ) (f : FileRead) (old mid last : Option World) (printed : Option (List ℕ))
    (new : Outside) (written : ℕ) (end : Result (Unit {0}) Fault) (u : Unit {0})
    → Passes (pack_apart p) old mid (Ok u) → IsReadOf mid (text_entry p.folder.now) f × (last ≡ mid) → f.bytes ≡ text
    → EndsText p text (at last printed) new written end
    → EndsPack p (at old printed) new written end
text_ends p text f None mid last printed new written end u pass read same done = tt
text_ends p text f (Some w) mid last printed new written end u pass read same done =
    let d = subst (λ (x : Option World). EndsText p text (at x printed) new written end) (read.1 ∙ pass.1) done in
    record {
      inputs = record { first = Ok text; second = Err NotFound; others = d.given };
      given_text = subst (λ (b : List ℕ). Gives (Some w) (text_path p.folder.now) (Ok b)) same
          (subst (λ (x : Option World). Gives x (text_path p.folder.now) (Ok f.bytes)) pass.1 read.0.1);
      given_waves = d.gives;
      ends = subst (λ (x : Result Action Why). EndsAs w x (at (Some w) printed) new written end)
          (sym (pass.0 (lines_plan p text d.given w (entries_in_text p.folder.now text)))) d.ends;
    }

-- ---- the lines

pub lines_end : (p : PackPaths) (text : List ℕ) (entries : List Entry) (old : Option World) (printed : Option (List ℕ))
    (new : Outside) (written : ℕ) (end : Result (Unit {0}) Fault)
    → entries_in_text p.folder.now text ≡ Ok entries
    → EndsEntries p text entries (at old printed) new written end
    → EndsText p text (at old printed) new written end
lines_end p text entries None printed new written end e d = tt
lines_end p text entries (Some w) printed new written end e d = record {
  given = d.given;
  gives = subst (λ (r : Result (List Entry) RunFault). GiveWaves w (entries_or_none r) d.given) (sym e) d.gives;
  ends = subst
      (λ (r : Result (List Entry) RunFault). EndsAs w (lines_plan p text d.given w r) (at (Some w) printed) new written end)
      (sym e) d.ends;
}

pub no_entries : (p : PackPaths) (text : List ℕ) (old : Option World) (printed : Option (List ℕ)) (written : ℕ)
    (why : RunFault)
    → FailsBefore why (entries_in_text p.folder.now text)
    → EndsText {U = Unit {0}} p text (at old printed) (at old printed) written (Err (Run why p.out))
no_entries p text None printed written why h = tt
no_entries p text (Some w) printed written why h =
    let due = entries_in_text p.folder.now text in
    let given = given_waves w (entries_or_none due) in
    record {
      given = given;
      gives = all_given w (entries_or_none due);
      ends = outcome_fails (Some w) printed written p.out (λ v r. lines_plan p text given v r) why due (λ v f. refl) h;
    }

pub no_lines : (p : PackPaths) (text : List ℕ) (old : Option World) (printed : Option (List ℕ)) (written : ℕ)
    (why : RunFault)
    → FailsBefore why (lines_read (script_of text))
    → EndsText {U = Unit {0}} p text (at old printed) (at old printed) written (Err (Run why p.out))
no_lines p text old printed written why h =
    no_entries p text old printed written why
    (fails_through (entries_due p.folder.now) (λ f. refl) why (lines_read (script_of text)) h)

-- ---- the WAVE files

pub entries_rejected : (p : PackPaths) (text : List ℕ) (entries : List Entry) (old new : Option World)
    (printed : Option (List ℕ)) (written : ℕ) (fault : Fault)
    → Passes {U = Unit {0}} (λ w rest. apart w p.out.now (paths_of entries) rest) old new (Err fault)
    → EndsEntries {U = Unit {0}} p text entries (at old printed) (at new printed) written (Err fault)
entries_rejected p text entries None new printed written fault h = tt
entries_rejected p text entries (Some w) new printed written fault h =
    let given = given_waves w entries in
    record {
      given = given;
      gives = all_given w entries;
      ends = ends_early w (entries_plan p text given w entries) (at (Some w) printed) (at new printed) written fault
          (h.0 (with_waves entries given (λ waves. with_packed p entries w (pack_outcome text waves))))
          (untouched (Some w) new printed h.1);
    }

pub entries_unread : (p : PackPaths) (text : List ℕ) (entries : List Entry) (old mid new : Option World)
    (printed : Option (List ℕ)) (written : ℕ) (fault : Fault) (u : Unit {0})
    → Passes (λ w rest. apart w p.out.now (paths_of entries) rest) old mid (Ok u)
    → StopsAtEntry mid entries fault × (new ≡ mid)
    → EndsEntries {U = Unit {0}} p text entries (at old printed) (at new printed) written (Err fault)
entries_unread p text entries None mid new printed written fault u pass read = tt
entries_unread p text entries (Some w) mid new printed written fault u pass read =
    let at_entry = subst (λ (x : Option World). StopsAtEntry x entries fault) pass.1 read.0 in
    let s = subst (λ (es : List Entry). StopsGiven w es fault) (sym at_entry.is)
    (stops_given w at_entry.before at_entry.files at_entry.at at_entry.after fault at_entry.read at_entry.fails) in
    let rest : List (List ℕ) → Result Action Why = λ waves. with_packed p entries w (pack_outcome text waves) in
    record {
      given = s.given;
      gives = s.gives;
      ends = ends_early w (entries_plan p text s.given w entries) (at (Some w) printed) (at new printed) written fault
          (subst (λ (x : Result Action Why). IsEarly w x fault) (sym (pass.0 (with_waves entries s.given rest))) (s.stops rest))
          (untouched (Some w) new printed (read.1 ∙ pass.1));
    }

pub entries_end : (p : PackPaths) (text : List ℕ) (entries : List Entry) (files : List FileRead)
    (old mid last : Option World) (printed : Option (List ℕ)) (new : Outside) (written : ℕ)
    (end : Result (Unit {0}) Fault) (u : Unit {0})
    → Passes (λ w rest. apart w p.out.now (paths_of entries) rest) old mid (Ok u)
    → AllZip (IsReadOf mid) entries files × (last ≡ mid)
    → EndsFor (λ w. with_packed p entries w (pack_outcome text (map (λ (f : FileRead). f.bytes) files)))
    (at last printed) new written end
    → EndsEntries p text entries (at old printed) new written end
entries_end p text entries files None mid last printed new written end u pass read done = tt
entries_end p text entries files (Some w) mid last printed new written end u pass read done =
    let rest : World → List (List ℕ) → Result Action Why = λ v waves. with_packed p entries v (pack_outcome text waves) in
    let here = subst (λ (x : Option World). AllZip (IsReadOf x) entries files) pass.1 read.0 in
    let d =
    subst (λ (x : Option World). EndsFor (λ v. rest v (map (λ (f : FileRead). f.bytes) files)) (at x printed) new written end)
    (read.1 ∙ pass.1) done in
    let is = pass.0 (with_waves entries (given_files files) (rest w)) ∙ waves_pass w entries files (rest w) here in
    record {
      given = given_files files;
      gives = files_given w entries files here;
      ends = subst (λ (x : Result Action Why). EndsAs w x (at (Some w) printed) new written end) (sym is) d;
    }

-- ---- the bank

pub packed_stopped : (files : Option World) (printed : Option (List ℕ)) (written : ℕ) (p : PackPaths) (entries : List Entry)
    (outcome : Result (List ℕ) RunFault) (why : RunFault) (fault : Fault)
    → FailsBefore why outcome → IsOfKit entries p.out why fault
    → EndsFor {U = Unit {0}} (λ w. with_packed p entries w outcome) (at files printed) (at files printed) written (Err fault)
packed_stopped None printed written p entries outcome why fault h is = tt
packed_stopped (Some w) printed written p entries outcome why fault h is =
    ends_early w (with_packed p entries w outcome) (at (Some w) printed) (at (Some w) printed) written fault
    (recorded_fails w p.out entries (with_packed p entries w) outcome why fault (λ f. refl) h is)
    (untouched (Some w) (Some w) printed refl)

pub packed_put : (p : PackPaths) (entries : List Entry) (file : List ℕ) (outcome : Result (List ℕ) RunFault)
    (old new : Outside) (written : ℕ) (end : Result (Unit {0}) Fault)
    → outcome ≡ Ok file → EndsFor (λ w. Ok (put_at w p.out.now (Text file))) old new written end
    → EndsFor (λ w. with_packed p entries w outcome) old new written end
packed_put p entries file outcome old new written end e h =
    subst (λ (o : Result (List ℕ) RunFault). EndsFor (λ w. with_packed p entries w o) old new written end) (sym e) h

-- ---- a file that is a bank

pub bank_is : (file : List ℕ) (b : Parts) (counts : Counts) → ReadsAs file b counts → bank_outcome file ≡ Ok b
bank_is file b counts r =
    ap (λ (o : Option ReadFault). after_reading o (Ok (bank_in file))) r.0 ∙ ap (λ (c : Content). Ok c.bank) r.1

-- ---- a bank that is packed, or not

pub packed_ends : (p : PackPaths) (text : List ℕ) (entries : List Entry) (files : List FileRead) (file : List ℕ)
    (old mid last : Option World) (printed : Option (List ℕ)) (new : Outside) (written : ℕ)
    (end : Result (Unit {0}) Fault) (u : Unit {0})
    → Passes (λ w rest. apart w p.out.now (paths_of entries) rest) old mid (Ok u)
    → AllZip (IsReadOf mid) entries files × (last ≡ mid)
    → pack_outcome text (map (λ (f : FileRead). f.bytes) files) ≡ Ok file
    → EndsFor (λ w. Ok (put_at w p.out.now (Text file))) (at last printed) new written end
    → EndsEntries p text entries (at old printed) new written end
packed_ends p text entries files file old mid last printed new written end u pass read is h =
    entries_end p text entries files old mid last printed new written end u pass read
    (packed_put p entries file (pack_outcome text (map (λ (f : FileRead). f.bytes) files)) (at last printed) new written end is h)

pub packing_fails : (p : PackPaths) (text : List ℕ) (entries : List Entry) (files : List FileRead) (why : RunFault)
    (old mid last : Option World) (printed : Option (List ℕ)) (written : ℕ) (fault : Fault) (u : Unit {0})
    → Passes (λ w rest. apart w p.out.now (paths_of entries) rest) old mid (Ok u)
    → AllZip (IsReadOf mid) entries files × (last ≡ mid)
    → FailsBefore why (pack_outcome text (map (λ (f : FileRead). f.bytes) files)) → IsOfKit entries p.out why fault
    → EndsEntries {U = Unit {0}} p text entries (at old printed) (at last printed) written (Err fault)
packing_fails p text entries files why old mid last printed written fault u pass read fails is =
    entries_end p text entries files old mid last printed (at last printed) written (Err fault) u pass read
    (packed_stopped last printed written p entries (pack_outcome text (map (λ (f : FileRead). f.bytes) files)) why fault fails is)
