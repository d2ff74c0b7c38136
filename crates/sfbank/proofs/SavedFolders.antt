-- A folder that is saved step by step.
use Rattle.std.proofs.Common.{◌≡◌, ◌∙◌, ◌++◌, ◌+◌, ◌<◌, ◌≤◌, ℕ, zero, suc, List, [], ◌∷◌, length, take, drop, get_or}
use Rattle.std.proofs.Common.{Option, Some, None, Result, Ok, Err, Bool, true, false, refl, sym, ap, subst, arith}
use Rattle.std.specs.Option.{option_map}
use Rattle.std.specs.Prelude.{◌||◌, slice_get}
use Rattle.sf_base.specs.declared.limits.TheConstants.{POINTS}
use Rattle.bank_parts.specs.Valid.{point_total}
use Rattle.bank_changes.proofs.PointLaws.{among}
use Rattle.std.specs.Borrow.{Bor}
use Rattle.std.proofs.KnownBytes.{Keeps-refl}
use Rattle.std.proofs.lemmas.List.{append_assoc, append-nil, take_all}
use Rattle.bank_parts.specs.declared.parts.Sample.{Sample}
use Rattle.file_host.specs.World.{World, IsMade, held_at, is_nothing, with_folder_there, with_text}
use Rattle.file_host.specs.Saving.{Spoils}
use Rattle.file_host.specs.declared.faults.Which.TheVariants.{Out, Undo}
use Rattle.program_reports.specs.declared.fault.Fault.{Fault}
use Rattle.program_reports.specs.declared.fault.Fault.TheVariants.{Words, NotText, NoNumber, NoName, File, Output, Run, PipeClosed}
use Rattle.program_reports.specs.declared.fault.Fault.TheVariants.{FolderThere, HasFindings, RowFile, RowRecording}
use Rattle.program_reports.specs.declared.run_fault.RunFault.TheVariants as run
use Rattle.sfbank.specs.Ends.{EndsAs, EndsFor, RejectsFolder}
use Rattle.sfbank.specs.FolderPlans.{sample_steps, sample_path}
use Rattle.sfbank.specs.Outputs.{write_fault}
use Rattle.sfbank.specs.PlanParts.{FolderStep, MakesFolder, SavesFile, SavesFolder}
use Rattle.sfbank.specs.SavedFolders.{HasSaved, MayWrite, SavesSteps, SpoilsStep, StopsAmong, saved_step, saved_steps}
use Rattle.wave_file.specs.SampleWave.{sample_wave}
use Rattle.sfbank.proofs.PlanLaws.{at, none_saved, untouched}

-- ---- steps in a row

saved_in_turn : (xs ys : List FolderStep) (w : World) → saved_steps (xs ++ ys) w ≡ saved_steps ys (saved_steps xs w)
saved_in_turn [] ys w = refl
saved_in_turn (x ∷ xs) ys w = saved_in_turn xs ys (saved_step x w)

pub saved_after : (xs ys : List FolderStep) (old mid : Option World) → mid ≡ option_map (saved_steps xs) old
    → option_map (saved_steps ys) mid ≡ option_map (saved_steps (xs ++ ys)) old
saved_after xs ys None mid e = ap (option_map (saved_steps ys)) e
saved_after xs ys (Some w) mid e = ap (option_map (saved_steps ys)) e ∙ ap Some (sym (saved_in_turn xs ys w))

-- three parts of a list
around : (pre before after post : List FolderStep) → pre ++ ((before ++ after) ++ post) ≡ (pre ++ before) ++ (after ++ post)
around pre before after post =
    ap (λ (xs : List FolderStep). pre ++ xs) (append_assoc before after post) ∙ sym (append_assoc pre before (after ++ post))

-- what some of the steps leave is what all of them leave, up to there
has_within : (pre ss post all : List FolderStep) (old mid new : Option World) → all ≡ pre ++ (ss ++ post)
    → mid ≡ option_map (saved_steps pre) old → HasSaved ss mid new → HasSaved all old new
has_within pre ss post all old mid new e m h = record {
  before = pre ++ h.before;
  after = h.after ++ post;
  is = e ∙ ap (λ (xs : List FolderStep). pre ++ (xs ++ post)) h.is ∙ around pre h.before h.after post;
  files = h.files ∙ saved_after pre h.before old mid m;
}

stops_within : (pre ss post all : List FolderStep) (old mid new : Option World) → all ≡ pre ++ (ss ++ post)
    → mid ≡ option_map (saved_steps pre) old → StopsAmong ss mid new → StopsAmong all old new
stops_within pre ss post all old mid new e m h = record {
  before = pre ++ h.before;
  at = h.at;
  after = h.after ++ post;
  is = e ∙ ap (λ (xs : List FolderStep). pre ++ (xs ++ post)) h.is ∙ around pre h.before (h.at ∷ h.after) post;
  spoils = subst (λ (x : Option World). SpoilsStep h.at x new) (saved_after pre h.before old mid m) h.spoils;
}

-- some of the steps fail
pub fails_within : (folder : List ℕ) (pre ss post all : List FolderStep) (old mid new : Option World) (written : ℕ)
    (fault : Fault) → all ≡ pre ++ (ss ++ post) → mid ≡ option_map (saved_steps pre) old
    → SavesSteps {U = Unit {0}} folder ss mid new written (Err fault)
    → SavesSteps {U = Unit {0}} folder all old new written (Err fault)
fails_within folder pre ss post all old mid new written (Run run.Memory p) e m h = has_within pre ss post all old mid new e m h
fails_within folder pre ss post all old mid new written (Run (run.Write Out n) p) e m h =
    (h.0, h.1, stops_within pre ss post all old mid new e m h.2)
fails_within folder pre ss post all old mid new written PipeClosed e m h = stops_within pre ss post all old mid new e m h
fails_within folder pre ss post all old mid new written (Run (run.Write Undo n) p) e m h = absurd h
fails_within folder pre ss post all old mid new written (Words x) e m h = absurd h
fails_within folder pre ss post all old mid new written NotText e m h = absurd h
fails_within folder pre ss post all old mid new written (FolderThere path) e m h = absurd h
fails_within folder pre ss post all old mid new written (HasFindings path) e m h = absurd h
fails_within folder pre ss post all old mid new written (RowFile row why) e m h = absurd h
fails_within folder pre ss post all old mid new written (RowRecording row why) e m h = absurd h
fails_within folder pre ss post all old mid new written (NoNumber k) e m h = absurd h
fails_within folder pre ss post all old mid new written (NoName name) e m h = absurd h
fails_within folder pre ss post all old mid new written (File path f) e m h = absurd h
fails_within folder pre ss post all old mid new written (Output f path) e m h = absurd h
fails_within folder pre ss post all old mid new written (Run (run.Read f) path) e m h = absurd h
fails_within folder pre ss post all old mid new written (Run (run.ReadFirst f) path) e m h = absurd h
fails_within folder pre ss post all old mid new written (Run (run.ReadSecond f) path) e m h = absurd h
fails_within folder pre ss post all old mid new written (Run (run.ReadFrom f) path) e m h = absurd h
fails_within folder pre ss post all old mid new written (Run (run.Script f) path) e m h = absurd h
fails_within folder pre ss post all old mid new written (Run (run.Table f) path) e m h = absurd h
fails_within folder pre ss post all old mid new written (Run (run.Refused k f) path) e m h = absurd h
fails_within folder pre ss post all old mid new written (Run (run.NotNeutral k) path) e m h = absurd h
fails_within folder pre ss post all old mid new written (Run run.OtherVersion path) e m h = absurd h
fails_within folder pre ss post all old mid new written (Run (run.Notes f) path) e m h = absurd h
fails_within folder pre ss post all old mid new written (Run (run.Recording f) path) e m h = absurd h
fails_within folder pre ss post all old mid new written (Run (run.NoMember f) path) e m h = absurd h
fails_within folder pre ss post all old mid new written (Run (run.Presets f) path) e m h = absurd h
fails_within folder pre ss post all old mid new written (Run (run.Full f) path) e m h = absurd h
fails_within folder pre ss post all old mid new written (Run run.PlanFailed path) e m h = absurd h
fails_within folder pre ss post all old mid new written (Run (run.InRecording i f) path) e m h = absurd h

-- steps, and then others
pub steps_then : (folder : List ℕ) (pre ss : List FolderStep) (old mid new : Option World) (written : ℕ)
    (end : Result (Unit {0}) Fault) → mid ≡ option_map (saved_steps pre) old
    → SavesSteps folder ss mid new written end → SavesSteps folder (pre ++ ss) old new written end
steps_then folder pre ss old mid new written (Ok u) m h = h ∙ saved_after pre ss old mid m
steps_then folder pre ss old mid new written (Err fault) m h =
    fails_within folder pre ss [] (pre ++ ss) old mid new written fault
    (ap (λ (xs : List FolderStep). pre ++ xs) (sym (append-nil ss))) m h

-- the first steps fail
pub first_fail : (folder : List ℕ) (ss more : List FolderStep) (old new : Option World) (written : ℕ) (fault : Fault)
    → SavesSteps {U = Unit {0}} folder ss old new written (Err fault)
    → SavesSteps {U = Unit {0}} folder (ss ++ more) old new written (Err fault)
first_fail folder ss more old new written fault h =
    fails_within folder [] ss more (ss ++ more) old old new written fault refl (none_saved old) h

-- one step makes a folder
pub made_one : (path : List ℕ) (old new : Option World) → new ≡ option_map (with_folder_there path) old
    → new ≡ option_map (saved_steps (MakesFolder path ∷ [])) old
made_one path None new e = e
made_one path (Some w) new e = e

-- ---- the WAVE files of samples

pub samples_split : (folder : List ℕ) (n : ℕ) (samples : List Sample) (i : ℕ) (d : Sample) → i < length samples
    → sample_steps folder n samples
    ≡ sample_steps folder n (take i samples)
    ++ (SavesFile (sample_path folder (n + i) (get_or samples i d).name) (sample_wave (get_or samples i d)) ∷ []
    ++ sample_steps folder (suc (n + i)) (drop (suc i) samples))
samples_split folder n [] i d l = absurd (omega (arith, l))
samples_split folder n (s ∷ samples) zero d l =
    let e : n ≡ n + zero = omega arith in
    (λ i. SavesFile (sample_path folder (e i) s.name) (sample_wave s) ∷ sample_steps folder (suc (e i)) samples)
samples_split folder n (s ∷ samples) (suc i) d l =
    let e : suc n + i ≡ n + suc i = omega arith in
    let step : ℕ → FolderStep = λ m. SavesFile (sample_path folder m (get_or samples i d).name) (sample_wave (get_or samples i d)) in
    ap (λ (xs : List FolderStep). SavesFile (sample_path folder n s.name) (sample_wave s) ∷ xs)
    (samples_split folder (suc n) samples i d (omega (arith, l))
    ∙ ap (λ (m : ℕ). sample_steps folder (suc n) (take i samples) ++ (step m ∷ sample_steps folder (suc m) (drop (suc i) samples))) e)

-- the WAVE files so far
pub samples_front : (folder : List ℕ) (n : ℕ) (samples : List Sample) (i : ℕ) (d : Sample) → i < length samples
    → sample_steps folder n (take (suc i) samples)
    ≡ sample_steps folder n (take i samples)
    ++ (SavesFile (sample_path folder (n + i) (get_or samples i d).name) (sample_wave (get_or samples i d)) ∷ [])
samples_front folder n [] i d l = absurd (omega (arith, l))
samples_front folder n (s ∷ samples) zero d l =
    let e : n ≡ n + zero = omega arith in (λ i. SavesFile (sample_path folder (e i) s.name) (sample_wave s) ∷ [])
samples_front folder n (s ∷ samples) (suc i) d l =
    let e : suc n + i ≡ n + suc i = omega arith in
    let step : ℕ → FolderStep = λ m. SavesFile (sample_path folder m (get_or samples i d).name) (sample_wave (get_or samples i d)) in
    ap (λ (xs : List FolderStep). SavesFile (sample_path folder n s.name) (sample_wave s) ∷ xs)
    (samples_front folder (suc n) samples i d (omega (arith, l))
    ∙ ap (λ (m : ℕ). sample_steps folder (suc n) (take i samples) ++ (step m ∷ [])) e)

-- ---- how the request ends

-- the folder is saved
folder_done : (w : World) (folder : List ℕ) (force : Bool) (steps : List FolderStep) (new : Option World)
    (printed : Option (List ℕ)) (written : ℕ) (u : Unit {0})
    → MayWrite force folder (Some w) → SavesSteps folder steps (Some w) new written (Ok u)
    → EndsAs w (Ok (SavesFolder folder force steps)) (at (Some w) printed) (at new printed) written (Ok u)
folder_done w folder force steps new printed written u may h = record {
  action = SavesFolder folder force steps;
  is_planned = refl;
  does = record { allowed = may; files = h; printed = Keeps-refl printed };
}

-- a step fails
folder_fails : (w : World) (folder : List ℕ) (force : Bool) (steps : List FolderStep) (new : Option World)
    (printed : Option (List ℕ)) (written : ℕ) (fault : Fault)
    → SavesSteps {U = Unit {0}} folder steps (Some w) new written (Err fault)
    → EndsAs {U = Unit {0}} w (Ok (SavesFolder folder force steps)) (at (Some w) printed) (at new printed) written (Err fault)
folder_fails w folder force steps new printed written (Run run.Memory p) h =
    record { files = h; printed = Keeps-refl printed }
folder_fails w folder force steps new printed written (Run (run.Write Out n) p) h = record {
  action = SavesFolder folder force steps;
  is_planned = refl;
  stops = (h.0, h.1, record { files = h.2; printed = Keeps-refl printed });
}
folder_fails w folder force steps new printed written PipeClosed h = record {
  action = SavesFolder folder force steps;
  is_planned = refl;
  some = Out;
  n = written;
  at = folder;
  stops = (refl, refl, record { files = h; printed = Keeps-refl printed });
}
folder_fails w folder force steps new printed written (Run (run.Write Undo n) p) h = absurd h
folder_fails w folder force steps new printed written (Words x) h = absurd h
folder_fails w folder force steps new printed written NotText h = absurd h
folder_fails w folder force steps new printed written (FolderThere path) h = absurd h
folder_fails w folder force steps new printed written (HasFindings path) h = absurd h
folder_fails w folder force steps new printed written (RowFile row why) h = absurd h
folder_fails w folder force steps new printed written (RowRecording row why) h = absurd h
folder_fails w folder force steps new printed written (NoNumber k) h = absurd h
folder_fails w folder force steps new printed written (NoName name) h = absurd h
folder_fails w folder force steps new printed written (File path f) h = absurd h
folder_fails w folder force steps new printed written (Output f path) h = absurd h
folder_fails w folder force steps new printed written (Run (run.Read f) path) h = absurd h
folder_fails w folder force steps new printed written (Run (run.ReadFirst f) path) h = absurd h
folder_fails w folder force steps new printed written (Run (run.ReadSecond f) path) h = absurd h
folder_fails w folder force steps new printed written (Run (run.ReadFrom f) path) h = absurd h
folder_fails w folder force steps new printed written (Run (run.Script f) path) h = absurd h
folder_fails w folder force steps new printed written (Run (run.Table f) path) h = absurd h
folder_fails w folder force steps new printed written (Run (run.Refused k f) path) h = absurd h
folder_fails w folder force steps new printed written (Run (run.NotNeutral k) path) h = absurd h
folder_fails w folder force steps new printed written (Run run.OtherVersion path) h = absurd h
folder_fails w folder force steps new printed written (Run (run.Notes f) path) h = absurd h
folder_fails w folder force steps new printed written (Run (run.Recording f) path) h = absurd h
folder_fails w folder force steps new printed written (Run (run.NoMember f) path) h = absurd h
folder_fails w folder force steps new printed written (Run (run.Presets f) path) h = absurd h
folder_fails w folder force steps new printed written (Run (run.Full f) path) h = absurd h
folder_fails w folder force steps new printed written (Run run.PlanFailed path) h = absurd h
folder_fails w folder force steps new printed written (Run (run.InRecording i f) path) h = absurd h

folder_ends : (w : World) (folder : List ℕ) (force : Bool) (steps : List FolderStep) (new : Option World)
    (printed : Option (List ℕ)) (written : ℕ) (end : Result (Unit {0}) Fault)
    → MayWrite force folder (Some w) → SavesSteps folder steps (Some w) new written end
    → EndsAs w (Ok (SavesFolder folder force steps)) (at (Some w) printed) (at new printed) written end
folder_ends w folder force steps new printed written (Ok u) may h =
    folder_done w folder force steps new printed written u may h
folder_ends w folder force steps new printed written (Err fault) may h =
    folder_fails w folder force steps new printed written fault h

-- the folder is new, or may be there
may_write : (w : World) (folder : List ℕ) (force is_new : Bool) → IsMade (Some w) folder is_new
    → (is_new || force) ≡ true → MayWrite force folder (Some w)
may_write w folder true is_new made may = tt
may_write w folder false true made may = sym made
may_write w folder false false made may = absurd cc

-- the first folder is made, and then the files are saved
pub inner_saved : (folder : List ℕ) (force : Bool) (inner : List FolderStep) (old mid new : Option World)
    (printed : Option (List ℕ)) (written : ℕ) (end : Result (Unit {0}) Fault) (is_new : Bool)
    → IsMade old folder is_new × (mid ≡ option_map (with_folder_there folder) old)
    → (is_new || force) ≡ true
    → SavesSteps folder inner mid new written end
    → EndsFor (λ w. Ok (SavesFolder folder force (MakesFolder folder ∷ inner))) (at old printed) (at new printed) written end
inner_saved folder force inner None mid new printed written end is_new made may h = tt
inner_saved folder force inner (Some w) mid new printed written end is_new made may h =
    folder_ends w folder force (MakesFolder folder ∷ inner) new printed written end (may_write w folder force is_new made.0 may)
    (steps_then folder (MakesFolder folder ∷ []) inner (Some w) mid new written end
    (made_one folder (Some w) mid made.1) h)

-- the first folder is not made
pub not_made : (folder : List ℕ) (force : Bool) (inner : List FolderStep) (old new : Option World)
    (printed : Option (List ℕ)) (written : ℕ) (fault : Fault)
    → SavesSteps {U = Unit {0}} folder (MakesFolder folder ∷ []) old new written (Err fault)
    → EndsFor {U = Unit {0}} (λ w. Ok (SavesFolder folder force (MakesFolder folder ∷ inner))) (at old printed)
    (at new printed) written (Err fault)
not_made folder force inner None new printed written fault h = tt
not_made folder force inner (Some w) new printed written fault h =
    folder_fails w folder force (MakesFolder folder ∷ inner) new printed written fault
    (first_fail folder (MakesFolder folder ∷ []) inner (Some w) new written fault h)

-- the folder is there already, and may not be
there_stays : (w : World) (path : List ℕ) → is_nothing (held_at w path) ≡ false → with_folder_there path w ≡ w
there_stays w path e = rw e refl

neither : (a b : Bool) → (a || b) ≡ false → (a ≡ false) × (b ≡ false)
neither true b e = absurd cc
neither false b e = (refl, e)

pub is_there : (folder : Bor (List ℕ)) (force : Bool) (inner : List FolderStep) (old new : Option World)
    (printed : Option (List ℕ)) (written : ℕ) (is_new : Bool)
    → IsMade old folder.now is_new × (new ≡ option_map (with_folder_there folder.now) old)
    → (is_new || force) ≡ false
    → EndsFor {U = Unit {0}} (λ w. Ok (SavesFolder folder.now force (MakesFolder folder.now ∷ inner))) (at old printed)
    (at new printed) written (Err (FolderThere folder))
is_there folder force inner None new printed written is_new made e = tt
is_there folder force inner (Some w) new printed written is_new made e =
    let both = neither is_new force e in
    let nothing : is_nothing (held_at w folder.now) ≡ false = sym made.0 ∙ both.0 in
    (by_force force both.1, untouched (Some w) new printed (made.1 ∙ ap Some (there_stays w folder.now nothing)))
  where
    by_force : (f : Bool) → f ≡ false
        → RejectsFolder w (Ok (SavesFolder folder.now f (MakesFolder folder.now ∷ inner))) folder.now
    by_force true g = absurd cc
    by_force false g = (refl, sym made.0 ∙ (neither is_new force e).0)

-- ---- one file

pub saved_one : (path text : List ℕ) (old new : Option World) → new ≡ option_map (with_text path text) old
    → new ≡ option_map (saved_steps (SavesFile path text ∷ [])) old
saved_one path text None new e = e
saved_one path text (Some w) new e = e

-- a file that can't be written
spoiled : (path text : List ℕ) (old new : Option World) → Spoils old new path text
    → StopsAmong (SavesFile path text ∷ []) old new
spoiled path text old new h = record {
  before = [];
  at = SavesFile path text;
  after = [];
  is = refl;
  spoils = subst (λ (x : Option World). Spoils x new path text) (none_saved old) h;
}

pub spoiled_one : (folder : Bor (List ℕ)) (path text : List ℕ) (old new : Option World) (written n : ℕ) (fault : Fault)
    (is_closed : Bool)
    → fault ≡ write_fault Out n folder is_closed → n ≡ written → Spoils old new path text
    → SavesSteps {U = Unit {0}} folder.now (SavesFile path text ∷ []) old new written (Err fault)
spoiled_one folder path text old new written n fault true is count h = rw is (spoiled path text old new h)
spoiled_one folder path text old new written n fault false is count h =
    rw is (refl, count, spoiled path text old new h)

-- ---- the WAVE file of a sample, after those before it

from_zero : (i : ℕ) → 0 + i ≡ i
from_zero i = omega arith

-- it can't be written
pub wave_fails : (folder : List ℕ) (samples : List Sample) (i : ℕ) (x : Sample) (old mid new : Option World) (written : ℕ)
    (fault : Fault) → i < length samples → x ≡ get_or samples i x
    → mid ≡ option_map (saved_steps (sample_steps folder 0 (take i samples))) old
    → SavesSteps {U = Unit {0}} folder (SavesFile (sample_path folder i x.name) (sample_wave x) ∷ []) mid new written (Err fault)
    → SavesSteps {U = Unit {0}} folder (sample_steps folder 0 samples) old new written (Err fault)
wave_fails folder samples i x old mid new written fault l is m h =
    let rest = sample_steps folder (suc i) (drop (suc i) samples) in
    let front = sample_steps folder 0 (take i samples) in
    fails_within folder front (SavesFile (sample_path folder i x.name) (sample_wave x) ∷ []) rest (sample_steps folder 0 samples)
    old mid new written fault
    (samples_split folder 0 samples i x l
    ∙ (λ j. front
    ++ (SavesFile (sample_path folder (from_zero i j) (sym is j).name) (sample_wave (sym is j)) ∷ []
    ++ sample_steps folder (suc (from_zero i j)) (drop (suc i) samples)))) m h

-- it is saved
pub wave_saved : (folder : List ℕ) (samples : List Sample) (i : ℕ) (x : Sample) (old mid new : Option World)
    → i < length samples → x ≡ get_or samples i x
    → mid ≡ option_map (saved_steps (sample_steps folder 0 (take i samples))) old
    → new ≡ option_map (saved_steps (SavesFile (sample_path folder i x.name) (sample_wave x) ∷ [])) mid
    → new ≡ option_map (saved_steps (sample_steps folder 0 (take (i + 1) samples))) old
wave_saved folder samples i x old mid new l is m h =
    let front = sample_steps folder 0 (take i samples) in
    let one : suc i ≡ i + 1 = omega arith in
    h
    ∙ saved_after front (SavesFile (sample_path folder i x.name) (sample_wave x) ∷ []) old mid m
    ∙ ap (λ (xs : List FolderStep). option_map (saved_steps xs) old)
    ((λ j. front ++ (SavesFile (sample_path folder (sym (from_zero i) j) (is j).name) (sample_wave (is j)) ∷ []))
    ∙ sym (samples_front folder 0 samples i x l)
    ∙ ap (λ (n : ℕ). sample_steps folder 0 (take n samples)) one)

-- all are saved
pub all_saved : (folder : List ℕ) (samples : List Sample) (i : ℕ) (old new : Option World) → length samples ≤ i
    → new ≡ option_map (saved_steps (sample_steps folder 0 (take i samples))) old
    → new ≡ option_map (saved_steps (sample_steps folder 0 samples)) old
all_saved folder samples i old new l h =
    h ∙ ap (λ (xs : List Sample). option_map (saved_steps (sample_steps folder 0 xs)) old) (take_all i samples l)

-- ---- a sample among others

found : (xs : List Sample) (i : ℕ) (x : Sample) → i < length xs → x ≡ get_or xs i x → slice_get xs i ≡ Some x
found [] i x l e = absurd (omega (arith, l))
found (y ∷ xs) zero x l e = ap Some (sym e)
found (y ∷ xs) (suc i) x l e = found xs i x (omega (arith, l)) e

pub few_among : (samples : List Sample) (i : ℕ) (x : Sample) → point_total samples ≤ POINTS → i < length samples
    → x ≡ get_or samples i x → length x.points ≤ POINTS
few_among samples i x most l e = let some = among samples i x (found samples i x l e) in omega (arith, some, most)
