-- How the steps of a request make its end.
use Rattle.std.proofs.Common.{◌≡◌, ℕ, List, [], Option, Some, None, Result, Ok, Err, Bool}
use Rattle.std.proofs.Common.{refl, sym, ap, subst, ◌∙◌, inl}
use Rattle.std.specs.Prelude.{◌||◌}
use Rattle.std.specs.Option.{option_map}
use Rattle.std.proofs.KnownBytes.{Keeps-refl}
use Rattle.base_outputs.specs.declared.output_fault.OutputFault.TheVariants.{SameFile, HoldsBank}
use Rattle.file_host.specs.World.{World, Gives, file_at}
use Rattle.file_host.specs.Checks.{IsOneFile, is_one_file}
use Rattle.file_host.specs.declared.input_fault.InputFault.{InputFault}
use Rattle.file_host.specs.declared.input_fault.InputFault.TheVariants.{NotFound}
use Rattle.program_commands.specs.declared.words.Request.{Request}
use Rattle.program_reports.specs.declared.fault.Fault.{Fault}
use Rattle.program_reports.specs.declared.fault.Fault.TheVariants.{Words, NotText, NoNumber, NoName, File, Output, Run, PipeClosed}
use Rattle.program_reports.specs.declared.fault.Fault.TheVariants.{FolderThere, HasFindings, RowFile, RowRecording}
use Rattle.program_reports.specs.declared.run_fault.RunFault.TheVariants as run
use Rattle.sfbank.specs.PlanParts.{Action, Why, Unread, Inputs, GivesInput, no_bank, with_input}
use Rattle.sfbank.specs.Plans.{AreInputs, plan}
use Rattle.sfbank.specs.PlanParts.{Checks, FolderStep, Plays, Prints, Saves, SavesAll, SavesBoth, SavesFolder}
use Rattle.sfbank.specs.Ends.{Outside, IsUntouched, IsEarly, StopsForMemory, EndsAs, EndsFor}
use Rattle.sfbank.specs.Meanings.{MeansPlan}
use Rattle.sfbank.specs.SavedFolders.{HasSaved, saved_steps}
use Rattle.sfbank.specs.Steps.{Part, PassesIn, Passes, FailsInput, AreGiven, StopsInInputs}

-- ---- a request that does nothing

abbrev pub at : Option World → Option (List ℕ) → Outside
at files printed = record { files = files; printed = printed }

pub untouched : (old new : Option World) (printed : Option (List ℕ)) → new ≡ old → IsUntouched (at old printed) (at new printed)
untouched old new printed e = record { files = e; printed = Keeps-refl printed }

pub none_saved : (old : Option World) → old ≡ option_map (saved_steps []) old
none_saved None = refl
none_saved (Some w) = refl

-- no step of a folder is done
pub saved_none : (steps : List FolderStep) (old new : Option World) → new ≡ old → HasSaved steps old new
saved_none steps old new e =
    record { before = []; after = steps; is = refl; files = e ∙ none_saved old }

-- no file is changed where memory fails
pub memory_fails : (planned : Result Action Why) (old new : Outside) → IsUntouched old new → StopsForMemory planned old new
memory_fails (Err why) old new u = u
memory_fails (Ok (Saves path content)) old new u = u
memory_fails (Ok (SavesBoth out undo texts)) old new u = u
memory_fails (Ok (SavesAll script out undo comments purpose file)) old new u = inl u
memory_fails (Ok (SavesFolder folder force steps)) old new u =
    record { files = saved_none steps old.files new.files u.files; printed = u.printed }
memory_fails (Ok (Prints path content)) old new u = u
memory_fails (Ok (Checks path b)) old new u = u
memory_fails (Ok (Plays paths file)) old new u = u

-- no file is changed, for this fault
pub ends_early : (w : World) (planned : Result Action Why) (old new : Outside) (written : ℕ) (fault : Fault)
    → IsEarly w planned fault → IsUntouched old new → EndsAs {U = Unit {0}} w planned old new written (Err fault)
ends_early w planned old new written (Words error) h u = absurd h
ends_early w planned old new written NotText h u = absurd h
ends_early w planned old new written (RowFile row why) h u = (h, u)
ends_early w planned old new written (RowRecording row why) h u = (h, u)
ends_early w planned old new written (FolderThere path) h u = (h, u)
ends_early w planned old new written (HasFindings path) h u = absurd h
ends_early w planned old new written (NoNumber number) h u = (h, u)
ends_early w planned old new written (NoName name) h u = (h, u)
ends_early w planned old new written (File path why) h u = (h, u)
ends_early w planned old new written (Output SameFile path) h u = (h, u)
ends_early w planned old new written (Output HoldsBank path) h u = (h, u)
ends_early w planned old new written (Run (run.Read fault) path) h u = (h, u)
ends_early w planned old new written (Run (run.ReadFirst fault) path) h u = (h, u)
ends_early w planned old new written (Run (run.ReadSecond fault) path) h u = (h, u)
ends_early w planned old new written (Run (run.Script fault) path) h u = (h, u)
ends_early w planned old new written (Run (run.Refused number why) path) h u = (h, u)
ends_early w planned old new written (Run (run.NotNeutral number) path) h u = (h, u)
ends_early w planned old new written (Run run.OtherVersion path) h u = (h, u)
ends_early w planned old new written (Run run.PlanFailed path) h u = (h, u)
ends_early w planned old new written (Run (run.ReadFrom f) path) h u = (h, u)
ends_early w planned old new written (Run (run.Presets f) path) h u = (h, u)
ends_early w planned old new written (Run (run.Full f) path) h u = (h, u)
ends_early w planned old new written (Run (run.Notes fault) path) h u = (h, u)
ends_early w planned old new written (Run (run.Recording fault) path) h u = (h, u)
ends_early w planned old new written (Run (run.Table fault) path) h u = (h, u)
ends_early w planned old new written (Run (run.InRecording i fault) path) h u = (h, u)
ends_early w planned old new written (Run (run.NoMember cause) path) h u = (h, u)
ends_early w planned old new written (Run run.Memory path) h u = memory_fails planned old new u
ends_early w planned old new written (Run (run.Write which n) path) h u = absurd h
ends_early w planned old new written PipeClosed h u = absurd h

-- ---- checks

-- a bank that is the input may be replaced
with_flag : (w : World) (path : List ℕ) (one other : Bool) (r : Result (Unit {0}) Fault) → one ≡ other
    → PassesIn (λ x rest. no_bank x path one rest) (Some w) r → PassesIn (λ x rest. no_bank x path other rest) (Some w) r
with_flag w path one other r e h =
    subst (λ (b : Bool). PassesIn (λ x rest. no_bank x path b rest) (Some w) r) e h

-- what a check says of a world, for a flag that depends on the world
at_world : (w : World) (path input : List ℕ) (force : Bool) (r : Result (Unit {0}) Fault)
    → PassesIn (λ x rest. no_bank x path (force || is_one_file w path input) rest) (Some w) r
    → PassesIn (λ x rest. no_bank x path (force || is_one_file x path input) rest) (Some w) r
at_world w path input force (Ok u) h = h
at_world w path input force (Err fault) h = h

pub other_bank : (old mid new : Option World) (path input : List ℕ) (force found flag : Bool)
    (r : Result (Unit {0}) Fault) → flag ≡ (force || found) → IsOneFile old path input found → mid ≡ old
    → Passes (λ w rest. no_bank w path flag rest) mid new r
    → Passes (λ w rest. no_bank w path (force || is_one_file w path input) rest) old new r
other_bank None mid new path input force found flag r e f s h = (tt, h.1 ∙ s)
other_bank (Some w) mid new path input force found flag r e f s h =
    let here = subst (λ (x : Option World). PassesIn (λ y rest. no_bank y path flag rest) x r) s h.0 in
    let flags : flag ≡ (force || is_one_file w path input) = e ∙ ap (λ (b : Bool). force || b) f in
    (at_world w path input force r (with_flag w path flag (force || is_one_file w path input) r flags here), h.1 ∙ s)

-- ---- two parts of a plan in a row

-- what is known of a world is known of the same world
same_world : (part : Part) (old new : Option World) (r : Result (Unit {0}) Fault) → new ≡ old → PassesIn part new r
    → PassesIn part old r
same_world part old new r e h = subst (λ (w : Option World). PassesIn part w r) e h

pub both_in : (p q : Part) (old : Option World) (u : Unit {0}) (r : Result (Unit {0}) Fault) → PassesIn p old (Ok u)
    → PassesIn q old r → PassesIn (λ w rest. p w (q w rest)) old r
both_in p q None u r h k = tt
both_in p q (Some w) u (Ok v) h k = λ rest. h (q w rest) ∙ k rest
both_in p q (Some w) u (Err fault) h k =
    λ rest. subst (λ (x : Result Action Why). IsEarly w x fault) (sym (h (q w rest))) (k rest)

pub both_pass : (p q : Part) (old mid new : Option World) (u : Unit {0}) (r : Result (Unit {0}) Fault)
    → Passes p old mid (Ok u) → Passes q mid new r → Passes (λ w rest. p w (q w rest)) old new r
both_pass p q old mid new u r h k = (both_in p q old u r h.0 (same_world q old mid r h.1 k.0), k.1 ∙ h.1)

pub first_fails : (p q : Part) (old new : Option World) (fault : Fault) → Passes {U = Unit {0}} p old new (Err fault)
    → Passes {U = Unit {0}} (λ w rest. p w (q w rest)) old new (Err fault)
first_fails p q None new fault h = (tt, h.1)
first_fails p q (Some w) new fault h = (λ rest. h.0 (q w rest), h.1)

-- ---- a request whose checks fail

-- what an input gives
abbrev given_at : World → List ℕ → Result (List ℕ) InputFault
given_at w path = file_at w path

abbrev pub nothing : Inputs
nothing = record { first = Err NotFound; second = Err NotFound; others = [] }

-- the inputs of a request are at these two paths
abbrev pub HasInputs : Request → List ℕ → List ℕ → Type 0
HasInputs request p q =
    (w : World) (r s : Result (List ℕ) InputFault) (others : List (Result (List ℕ) InputFault))
    → GivesInput w (Some p) r → GivesInput w (Some q) s
    → AreInputs w request (record { first = r; second = s; others = others })

-- the plan of a request has this part, and then this rest
abbrev pub HasPlan : Request → Part → (World → Inputs → Result Action Why) → Type 0
HasPlan request part rest = (w : World) (inputs : Inputs) → plan request w inputs ≡ part w (rest w inputs)

fails_in : (request : Request) (part : Part) (rest : World → Inputs → Result Action Why)
    (p q : List ℕ) (old new : Option World) (printed : Option (List ℕ)) (written : ℕ) (fault : Fault)
    → HasPlan request part rest → HasInputs request p q → PassesIn {U = Unit {0}} part old (Err fault) → new ≡ old
    → MeansPlan {U = Unit {0}} request (at old printed) (at new printed) written (Err fault)
fails_in request part rest p q None new printed written fault shape has h e =
    record { inputs = nothing; given = tt; ends = tt }
fails_in request part rest p q (Some w) new printed written fault shape has h e =
    let inputs : Inputs = record { first = given_at w p; second = given_at w q; others = [] } in
    record {
      inputs = inputs;
      given = has w (given_at w p) (given_at w q) [] (λ s. refl) (λ s. refl);
      ends = ends_early w (plan request w inputs) (at (Some w) printed) (at new printed) written fault
          (subst (λ (x : Result Action Why). IsEarly w x fault) (sym (shape w inputs)) (h (rest w inputs)))
          (untouched (Some w) new printed e);
    }

pub checks_fail : (request : Request) (part : Part) (rest : World → Inputs → Result Action Why)
    (p q : List ℕ) (old new : Option World) (printed : Option (List ℕ)) (written : ℕ) (fault : Fault)
    → HasPlan request part rest → HasInputs request p q → Passes {U = Unit {0}} part old new (Err fault)
    → MeansPlan {U = Unit {0}} request (at old printed) (at new printed) written (Err fault)
checks_fail request part rest p q old new printed written fault shape has h =
    fails_in request part rest p q old new printed written fault shape has h.0 h.1

-- ---- a request whose inputs can't be read

-- a step that stops in this fault, for these inputs
pub stops_in : (request : Request) (part : Part) (rest : World → Inputs → Result Action Why)
    (p q : List ℕ) (old new : Option World) (printed : Option (List ℕ)) (written : ℕ) (fault : Fault) (u : Unit {0})
    (inputs : Inputs)
    → HasPlan request part rest → HasInputs request p q → PassesIn part old (Ok u) → new ≡ old
    → AreGiven old p q inputs → ((w : World) → IsEarly w (rest w inputs) fault)
    → MeansPlan {U = Unit {0}} request (at old printed) (at new printed) written (Err fault)
stops_in request part rest p q None new printed written fault u inputs shape has pass e given stops =
    record { inputs = inputs; given = tt; ends = tt }
stops_in request part rest p q (Some w) new printed written fault u inputs shape has pass e given stops =
    record {
      inputs = inputs;
      given = has w inputs.first inputs.second inputs.others given.0 given.1;
      ends = ends_early w (plan request w inputs) (at (Some w) printed) (at new printed) written fault
          (subst (λ (x : Result Action Why). IsEarly w x fault) (sym (shape w inputs ∙ pass (rest w inputs))) (stops w))
          (untouched (Some w) new printed e);
    }

-- ---- a request whose inputs are read

pub goes_on : (request : Request) (part : Part) (rest : World → Inputs → Result Action Why)
    (p q : List ℕ) (old : Option World) (printed : Option (List ℕ)) (new : Outside) (written : ℕ)
    (end : Result (Unit {0}) Fault) (u : Unit {0}) (inputs : Inputs)
    → HasPlan request part rest → HasInputs request p q → PassesIn part old (Ok u) → AreGiven old p q inputs
    → EndsFor (λ w. rest w inputs) (at old printed) new written end
    → MeansPlan request (at old printed) new written end
goes_on request part rest p q None printed new written end u inputs shape has pass given h =
    record { inputs = inputs; given = tt; ends = tt }
goes_on request part rest p q (Some w) printed new written end u inputs shape has pass given h =
    record {
      inputs = inputs;
      given = has w inputs.first inputs.second inputs.others given.0 given.1;
      ends = subst (λ (x : Result Action Why). EndsAs w x (at (Some w) printed) new written end)
          (sym (shape w inputs ∙ pass (rest w inputs))) h;
    }

-- ---- one input

-- a plan that reads an input
abbrev pub after_one : List ℕ → (World → List ℕ → Result Action Why) → World → Inputs → Result Action Why
after_one p rest w inputs = with_input p inputs.first (rest w)

abbrev pub twice : Result (List ℕ) InputFault → Inputs
twice given = record { first = given; second = given; others = [] }

pub no_checks : (old : Option World) (u : Unit {0}) → Passes (λ w rest. rest) old old (Ok u)
no_checks None u = (tt, refl)
no_checks (Some w) u = (λ rest. refl, refl)

pub given_before : (old before : Option World) (p : List ℕ) (given : Result (List ℕ) InputFault) → before ≡ old
    → Gives before p given → Gives old p given
given_before old before p given e h = subst (λ (w : Option World). Gives w p given) e h

pub one_goes_on : (request : Request) (part : Part) (rest : World → List ℕ → Result Action Why)
    (p : List ℕ) (old before mid : Option World) (printed : Option (List ℕ)) (new : Outside) (written : ℕ)
    (end : Result (Unit {0}) Fault) (u : Unit {0}) (bytes : List ℕ)
    → HasPlan request part (after_one p rest) → HasInputs request p p → Passes part old before (Ok u)
    → Gives before p (Ok bytes) × (mid ≡ before)
    → EndsFor (λ w. rest w bytes) (at mid printed) new written end
    → MeansPlan request (at old printed) new written end
one_goes_on request part rest p old before mid printed new written end u bytes shape has pass read h =
    let given = given_before old before p (Ok bytes) pass.1 read.0 in
    goes_on request part (after_one p rest) p p old printed new written end u (twice (Ok bytes)) shape has pass.0
    (given, given)
    (subst (λ (x : Option World). EndsFor (λ w. rest w bytes) (at x printed) new written end) (read.1 ∙ pass.1) h)

-- An input can't be read, and the plan stops in this fault.
pub record StopsInput (old : Option World) (p : List ℕ) (fault : Fault) : Type 0 where
  pub given : Result (List ℕ) InputFault
  pub is_given : Gives old p given
  pub stops : (w : World) (rest : List ℕ → Result Action Why) → IsEarly w (with_input p given rest) fault

any_given : (old : Option World) (p : List ℕ) → (given : Result (List ℕ) InputFault) × Gives old p given
any_given None p = (Err NotFound, tt)
any_given (Some w) p = (given_at w p, λ s. refl)

pub input_stops : (old new : Option World) (p : List ℕ) (fault : Fault) → FailsInput old new p fault
    → StopsInput old p fault × (new ≡ old)
input_stops old new p (File path why) h = (
  record {
    given = Err why;
    is_given = h.1;
    stops = λ w rest. ap (λ (x : List ℕ). Err (Unread x why)) (sym h.0);
  },
  h.2,
)
input_stops old new p (Run run.Memory path) h =
    let any = any_given old p in (record { given = any.0; is_given = any.1; stops = λ w rest. tt }, h)
input_stops old new p (Words e) h = absurd h
input_stops old new p NotText h = absurd h
input_stops old new p (RowFile row why) h = absurd h
input_stops old new p (RowRecording row why) h = absurd h
input_stops old new p (FolderThere path) h = absurd h
input_stops old new p (HasFindings path) h = absurd h
input_stops old new p (NoNumber n) h = absurd h
input_stops old new p (NoName n) h = absurd h
input_stops old new p (Output f path) h = absurd h
input_stops old new p PipeClosed h = absurd h
input_stops old new p (Run (run.Read f) path) h = absurd h
input_stops old new p (Run (run.ReadFirst f) path) h = absurd h
input_stops old new p (Run (run.ReadSecond f) path) h = absurd h
input_stops old new p (Run (run.Script f) path) h = absurd h
input_stops old new p (Run (run.Refused n f) path) h = absurd h
input_stops old new p (Run (run.NotNeutral n) path) h = absurd h
input_stops old new p (Run run.OtherVersion path) h = absurd h
input_stops old new p (Run run.PlanFailed path) h = absurd h
input_stops old new p (Run (run.ReadFrom f) path) h = absurd h
input_stops old new p (Run (run.Presets f) path) h = absurd h
input_stops old new p (Run (run.Full f) path) h = absurd h
input_stops old new p (Run (run.Notes f) path) h = absurd h
input_stops old new p (Run (run.Recording f) path) h = absurd h
input_stops old new p (Run (run.Table f) path) h = absurd h
input_stops old new p (Run (run.InRecording i f) path) h = absurd h
input_stops old new p (Run (run.NoMember f) path) h = absurd h
input_stops old new p (Run (run.Write f n) path) h = absurd h

pub one_fails : (request : Request) (part : Part) (rest : World → List ℕ → Result Action Why)
    (p : List ℕ) (old before mid : Option World) (printed : Option (List ℕ)) (written : ℕ) (fault : Fault) (u : Unit {0})
    → HasPlan request part (after_one p rest) → HasInputs request p p → Passes part old before (Ok u)
    → FailsInput before mid p fault
    → MeansPlan {U = Unit {0}} request (at old printed) (at mid printed) written (Err fault)
one_fails request part rest p old before mid printed written fault u shape has pass read =
    let s = input_stops before mid p fault read in
    let given = given_before old before p s.0.given pass.1 s.0.is_given in
    stops_in request part (after_one p rest) p p old mid printed written fault u (twice s.0.given) shape has
    pass.0 (s.1 ∙ pass.1) (given, given) (λ w. s.0.stops w (rest w))

-- ---- two inputs

-- a plan that reads two inputs
abbrev pub after_two : List ℕ → List ℕ → (World → List ℕ → List ℕ → Result Action Why) → World → Inputs → Result Action Why
after_two p q rest w inputs = with_input p inputs.first (λ a. with_input q inputs.second (rest w a))

pub two_go_on : (request : Request) (part : Part) (rest : World → List ℕ → List ℕ → Result Action Why)
    (p q : List ℕ) (old before mid : Option World) (printed : Option (List ℕ)) (new : Outside) (written : ℕ)
    (end : Result (Unit {0}) Fault) (u : Unit {0}) (a b : List ℕ)
    → HasPlan request part (after_two p q rest) → HasInputs request p q → Passes part old before (Ok u)
    → AreGiven before p q (record { first = Ok a; second = Ok b; others = [] }) × (mid ≡ before)
    → EndsFor (λ w. rest w a b) (at mid printed) new written end
    → MeansPlan request (at old printed) new written end
two_go_on request part rest p q old before mid printed new written end u a b shape has pass read h =
    goes_on request part (after_two p q rest) p q old printed new written end u (record { first = Ok a; second = Ok b; others = [] })
    shape has pass.0
    (given_before old before p (Ok a) pass.1 read.0.0, given_before old before q (Ok b) pass.1 read.0.1)
    (subst (λ (x : Option World). EndsFor (λ w. rest w a b) (at x printed) new written end) (read.1 ∙ pass.1) h)

pub two_fail : (request : Request) (part : Part) (rest : World → List ℕ → List ℕ → Result Action Why)
    (p q : List ℕ) (old before mid : Option World) (printed : Option (List ℕ)) (written : ℕ) (fault : Fault) (u : Unit {0})
    → HasPlan request part (after_two p q rest) → HasInputs request p q → Passes part old before (Ok u)
    → StopsInInputs before p q fault × (mid ≡ before)
    → MeansPlan {U = Unit {0}} request (at old printed) (at mid printed) written (Err fault)
two_fail request part rest p q old before mid printed written fault u shape has pass read =
    let s = read.0 in
    stops_in request part (after_two p q rest) p q old mid printed written fault u s.inputs shape has
    pass.0 (read.1 ∙ pass.1)
    (given_before old before p s.inputs.first pass.1 s.given.0, given_before old before q s.inputs.second pass.1 s.given.1)
    (λ w. s.stops w (rest w))

-- the first of two inputs can't be read
pub first_stops : (old new : Option World) (p q : List ℕ) (fault : Fault) → FailsInput old new p fault
    → StopsInInputs old p q fault × (new ≡ old)
first_stops old new p q fault read =
    let s = input_stops old new p fault read in
    let other = any_given old q in (
      record {
        inputs = record { first = s.0.given; second = other.0; others = [] };
        given = (s.0.is_given, other.1);
        stops = λ w rest. s.0.stops w (λ a. with_input q other.0 (rest a));
      },
      s.1,
    )

-- the second can't be read
pub second_stops : (old mid new : Option World) (p q : List ℕ) (a : List ℕ) (fault : Fault)
    → Gives old p (Ok a) × (mid ≡ old) → FailsInput mid new q fault → StopsInInputs old p q fault × (new ≡ old)
second_stops old mid new p q a fault first read =
    let s = input_stops mid new q fault read in (
      record {
        inputs = record { first = Ok a; second = s.0.given; others = [] };
        given = (first.0, given_before old mid q s.0.given first.1 s.0.is_given);
        stops = λ w rest. s.0.stops w (rest a);
      },
      s.1 ∙ first.1,
    )

-- ---- no inputs

pub no_inputs : (request : Request) (part : Part) (rest : World → Result Action Why) (old mid : Option World)
    (printed : Option (List ℕ)) (new : Outside) (written : ℕ) (end : Result (Unit {0}) Fault) (u : Unit {0})
    → HasPlan request part (λ w i. rest w) → ((w : World) (i : Inputs) → AreInputs w request i)
    → Passes part old mid (Ok u) → EndsFor rest (at mid printed) new written end
    → MeansPlan request (at old printed) new written end
no_inputs request part rest None mid printed new written end u shape has pass h =
    record { inputs = nothing; given = tt; ends = tt }
no_inputs request part rest (Some w) mid printed new written end u shape has pass h =
    record {
      inputs = nothing;
      given = has w nothing;
      ends = subst (λ (x : Result Action Why). EndsAs w x (at (Some w) printed) new written end)
          (sym (shape w nothing ∙ pass.0 (rest w)))
          (subst (λ (x : Option World). EndsFor rest (at x printed) new written end) pass.1 h);
    }
