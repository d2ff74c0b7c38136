-- How the outcome of a run makes the end of a request.
use Rattle.std.proofs.Common.{◌≡◌, ◌||◌, ℕ, Bool, List, Option, Some, None, Result, Ok, Err, refl, sym, ap, subst, ◌∙◌, inl, inr}
use Rattle.std.proofs.KnownBytes.{Keeps-refl}
use Rattle.std.specs.Io.KnownBytes.{Appends}
use Rattle.std.specs.Borrow.{Bor}
use Rattle.bank_parts.specs.declared.parts.Parts.{Parts}
use Rattle.bank_format.specs.declared.fault.Counts.{Counts}
use Rattle.bank_format.specs.declared.fault.ReadFault.{ReadFault}
use Rattle.bank_format.specs.ReadChecks.{fault_of}
use Rattle.file_host.specs.World.{World}
use Rattle.file_host.specs.Saving.{SpoilsPair}
use Rattle.file_host.specs.declared.faults.Which.{Which}
use Rattle.file_host.specs.declared.faults.Which.TheVariants.{Out, Undo}
use Rattle.program_commands.specs.declared.explain.Topic.{Topic}
use Rattle.program_commands.specs.declared.words.Request.TheVariants.{Explain}
use Rattle.program_reports.specs.declared.fault.Fault.{Fault}
use Rattle.program_reports.specs.declared.fault.Fault.TheVariants.{Words, NotText, NoNumber, NoName, File, Output, Run, PipeClosed}
use Rattle.program_reports.specs.declared.fault.Fault.TheVariants.{FolderThere, HasFindings, RowFile, RowRecording}
use Rattle.program_reports.specs.Reporting.{Ends}
use Rattle.program_reports.specs.declared.run_fault.RunFault.{RunFault}
use Rattle.program_reports.specs.declared.run_fault.RunFault.TheVariants as run
use Rattle.sfbank.specs.Outcome.{Done, after_reading}
use Rattle.sfbank.specs.Written.{FailsBefore}
use Rattle.sfbank.specs.PlanParts.{Action, Content, Texts, Known, Why, Fails, SavesBoth, Prints, Text, Explanation}
use Rattle.sfbank.specs.PlanParts.{standard_output, put_at}
use Rattle.sfbank.specs.PlanParts.{Difference, with_text, without_undo, with_print, with_both, with_difference}
use Rattle.sfbank.specs.Differences.{TwoBanks, FindsDifference, banks_in, two_banks_of}
use Rattle.sfbank.specs.Ends.{Outside, AreTexts, Does, IsContent, IsEarly, IsStopped, EndsAs, EndsFor, StopsIn, path_of}
use Rattle.sfbank.specs.Meanings.{EndsExplained, MeansPlan}
use Rattle.sfbank.specs.Outputs.{FailsFirst, PrintsAt, PrintsFirst, PrintsOutcome, LacksTopic, FailsTopic}
use Rattle.sfbank.specs.Outputs.{PrintsExplanation, SavesPairAt}
use Rattle.sfbank.specs.Steps.{ReadsBank}
use Rattle.sfbank.proofs.PlanLaws.{at, untouched, nothing, ends_early, memory_fails}

-- ---- a file that is no bank

pub bank_fails : {X Y : Type 0} (view : X → Parts × Counts) (fault : RunFault) (file : List ℕ) (r : Result Y RunFault)
    → ReadsBank view file (Err fault) → FailsBefore fault (after_reading (fault_of file) r)
bank_fails view (run.Read fault) file r h = ap (λ (o : Option ReadFault). after_reading o r) h
bank_fails view run.Memory file r h = tt
bank_fails view (run.ReadFirst f) file r h = absurd h
bank_fails view (run.ReadSecond f) file r h = absurd h
bank_fails view (run.Script f) file r h = absurd h
bank_fails view (run.Refused n f) file r h = absurd h
bank_fails view (run.NotNeutral n) file r h = absurd h
bank_fails view run.OtherVersion file r h = absurd h
bank_fails view run.PlanFailed file r h = absurd h
bank_fails view (run.ReadFrom f) file r h = absurd h
bank_fails view (run.Presets f) file r h = absurd h
bank_fails view (run.Full f) file r h = absurd h
bank_fails view (run.Notes f) file r h = absurd h
bank_fails view (run.Recording f) file r h = absurd h
bank_fails view (run.Table f) file r h = absurd h
bank_fails view (run.InRecording i f) file r h = absurd h
bank_fails view (run.NoMember f) file r h = absurd h
bank_fails view (run.Write f n) file r h = absurd h

-- ---- a run that fails before it writes

-- the plan of a run's fault
abbrev pub PlansFaults : {X : Type 0} → List ℕ → (Result X RunFault → Result Action Why) → Type 0
PlansFaults path planned = (fault : RunFault) → planned (Err fault) ≡ Err (Fails path fault)

run_fails : {X : Type 0} (w : World) (path : Bor (List ℕ)) (planned : Result X RunFault → Result Action Why)
    (why : RunFault) (outcome : Result X RunFault)
    → PlansFaults path.now planned → FailsBefore why outcome → IsEarly w (planned outcome) (Run why path)
run_fails w path planned (run.Read f) outcome law h = ap planned h ∙ law (run.Read f)
run_fails w path planned (run.ReadFirst f) outcome law h = ap planned h ∙ law (run.ReadFirst f)
run_fails w path planned (run.ReadSecond f) outcome law h = ap planned h ∙ law (run.ReadSecond f)
run_fails w path planned (run.Script f) outcome law h = ap planned h ∙ law (run.Script f)
run_fails w path planned (run.Refused n f) outcome law h = ap planned h ∙ law (run.Refused n f)
run_fails w path planned (run.NotNeutral n) outcome law h = ap planned h ∙ law (run.NotNeutral n)
run_fails w path planned run.OtherVersion outcome law h = ap planned h ∙ law run.OtherVersion
run_fails w path planned run.PlanFailed outcome law h = inl (ap planned h ∙ law run.PlanFailed)
run_fails w path planned (run.ReadFrom f) outcome law h = ap planned h ∙ law (run.ReadFrom f)
run_fails w path planned (run.Presets f) outcome law h = ap planned h ∙ law (run.Presets f)
run_fails w path planned (run.Full f) outcome law h = inl (ap planned h ∙ law (run.Full f))
run_fails w path planned (run.Notes f) outcome law h = ap planned h ∙ law (run.Notes f)
run_fails w path planned (run.Recording f) outcome law h = ap planned h ∙ law (run.Recording f)
run_fails w path planned (run.Table f) outcome law h = ap planned h ∙ law (run.Table f)
run_fails w path planned (run.InRecording i f) outcome law h = ap planned h ∙ law (run.InRecording i f)
run_fails w path planned (run.NoMember f) outcome law h = ap planned h ∙ law (run.NoMember f)
run_fails w path planned run.Memory outcome law h = tt
run_fails w path planned (run.Write f n) outcome law h = absurd h

pub outcome_fails : {X : Type 0} (files : Option World) (printed : Option (List ℕ)) (written : ℕ) (path : Bor (List ℕ))
    (planned : World → Result X RunFault → Result Action Why) (why : RunFault) (outcome : Result X RunFault)
    → ((w : World) → PlansFaults path.now (planned w)) → FailsBefore why outcome
    → EndsFor {U = Unit {0}} (λ w. planned w outcome) (at files printed) (at files printed) written (Err (Run why path))
outcome_fails None printed written path planned why outcome law h = tt
outcome_fails (Some w) printed written path planned why outcome law h =
    ends_early w (planned w outcome) (at (Some w) printed) (at (Some w) printed) written (Run why path)
    (run_fails w path (planned w) why outcome (law w) h) (untouched (Some w) (Some w) printed refl)

-- the same for a run with one text
pub text_fails : (files : Option World) (printed : Option (List ℕ)) (written : ℕ) (path : Bor (List ℕ))
    (why : RunFault) (outcome : Result (List ℕ) RunFault) → FailsBefore why outcome
    → EndsFor {U = Unit {0}} (λ w. with_text w path.now outcome) (at files printed) (at files printed) written (Err (Run why path))
text_fails files printed written path why outcome h =
    outcome_fails files printed written path (λ w r. with_text w path.now r) why outcome (λ w fault. refl) h

-- ---- a run with one text

pub text_put : (path text : List ℕ) (outcome : Result (List ℕ) RunFault) (old new : Outside) (written : ℕ)
    (end : Result (Unit {0}) Fault) → outcome ≡ Ok text → EndsFor (λ w. Ok (put_at w path (Text text))) old new written end
    → EndsFor (λ w. with_text w path outcome) old new written end
text_put path text outcome old new written end e h =
    subst (λ (o : Result (List ℕ) RunFault). EndsFor (λ w. with_text w path o) old new written end) (sym e) h

pub only_fails : (files : Option World) (printed : Option (List ℕ)) (written : ℕ) (path : Bor (List ℕ))
    (why : RunFault) (outcome : Result Done RunFault) → FailsBefore why outcome
    → EndsFor {U = Unit {0}} (λ w. with_text w path.now (without_undo outcome)) (at files printed) (at files printed) written
    (Err (Run why path))
only_fails files printed written path why outcome h =
    outcome_fails files printed written path (λ w r. with_text w path.now (without_undo r)) why outcome (λ w fault. refl) h

-- ---- a text that is printed

-- where an action stops that prints a text
print_stops : (w : World) (path text : List ℕ) (action : Action) (planned : Result Action Why)
    (old new : Option (List ℕ)) (written : ℕ) (fault : Fault) → planned ≡ Ok action
    → ((n : ℕ) → PrintsFirst n text old new → StopsIn action Out n path written (at (Some w) old) (at (Some w) new))
    → PrintsAt {U = Unit {0}} path text old new (Err fault)
    → EndsAs {U = Unit {0}} w planned (at (Some w) old) (at (Some w) new) written (Err fault)
print_stops w path text action planned old new written (Run (run.Write Out n) at) e stops h =
    record { action = action; is_planned = e; stops = rw h.0 (stops n h.1) }
print_stops w path text action planned old new written PipeClosed e stops h =
    record { action = action; is_planned = e; some = Out; n = h.0; at = path; stops = stops h.0 h.1 }
print_stops w path text action planned old new written (Run (run.Write Undo n) at) e stops h = absurd h
print_stops w path text action planned old new written (Words x) e stops h = absurd h
print_stops w path text action planned old new written NotText e stops h = absurd h
print_stops w path text action planned old new written (RowFile row why) e stops h = absurd h
print_stops w path text action planned old new written (RowRecording row why) e stops h = absurd h
print_stops w path text action planned old new written (FolderThere p) e stops h = absurd h
print_stops w path text action planned old new written (HasFindings p) e stops h = absurd h
print_stops w path text action planned old new written (NoNumber n) e stops h = absurd h
print_stops w path text action planned old new written (NoName n) e stops h = absurd h
print_stops w path text action planned old new written (File p f) e stops h = absurd h
print_stops w path text action planned old new written (Output f p) e stops h = absurd h
print_stops w path text action planned old new written (Run (run.Read f) p) e stops h = absurd h
print_stops w path text action planned old new written (Run (run.ReadFirst f) p) e stops h = absurd h
print_stops w path text action planned old new written (Run (run.ReadSecond f) p) e stops h = absurd h
print_stops w path text action planned old new written (Run (run.Script f) p) e stops h = absurd h
print_stops w path text action planned old new written (Run (run.Refused n f) p) e stops h = absurd h
print_stops w path text action planned old new written (Run (run.NotNeutral n) p) e stops h = absurd h
print_stops w path text action planned old new written (Run run.OtherVersion p) e stops h = absurd h
print_stops w path text action planned old new written (Run run.PlanFailed p) e stops h = absurd h
print_stops w path text action planned old new written (Run (run.ReadFrom f) p) e stops h = absurd h
print_stops w path text action planned old new written (Run (run.Presets f) p) e stops h = absurd h
print_stops w path text action planned old new written (Run (run.Full f) p) e stops h = absurd h
print_stops w path text action planned old new written (Run (run.Notes f) p) e stops h = absurd h
print_stops w path text action planned old new written (Run (run.Recording f) p) e stops h = absurd h
print_stops w path text action planned old new written (Run (run.Table f) p) e stops h = absurd h
print_stops w path text action planned old new written (Run (run.InRecording i f) p) e stops h = absurd h
print_stops w path text action planned old new written (Run (run.NoMember f) p) e stops h = absurd h
print_stops w path text action planned old new written (Run run.Memory p) e stops h = absurd h

-- how an action ends that prints a text: what it does if the text is printed whole, and where it stops
pub print_ends : (w : World) (path text : List ℕ) (action : Action) (planned : Result Action Why)
    (old new : Option (List ℕ)) (written : ℕ) (end : Result (Unit {0}) Fault) → planned ≡ Ok action
    → ((u : Unit {0}) → end ≡ Ok u → Appends old new text → Does action (at (Some w) old) (at (Some w) new))
    → ((n : ℕ) → PrintsFirst n text old new → StopsIn action Out n path written (at (Some w) old) (at (Some w) new))
    → PrintsAt path text old new end → EndsAs w planned (at (Some w) old) (at (Some w) new) written end
print_ends w path text action planned old new written (Ok u) e does stops h =
    record { action = action; is_planned = e; does = does u refl h }
print_ends w path text action planned old new written (Err fault) e does stops h =
    print_stops w path text action planned old new written fault e stops h

pub prints_end : (w : World) (path text : List ℕ) (content : Content) (planned : Result Action Why)
    (old new : Option (List ℕ)) (written : ℕ) (end : Result (Unit {0}) Fault)
    → planned ≡ Ok (Prints path content) → IsContent content text → PrintsAt path text old new end
    → EndsAs w planned (at (Some w) old) (at (Some w) new) written end
prints_end w path text content planned old new written end e is h =
    print_ends w path text (Prints path content) planned old new written end e
    (λ u done all. record { text = text; is = is; printed = all; files = refl })
    (λ n first. (refl, record { text = text; is = is; within = first.0; printed = first.1; files = refl })) h

-- a run that fails before it prints
print_fails : (w : World) (outcome : Result (List ℕ) RunFault) (old new : Option (List ℕ)) (written : ℕ)
    (end : Result (Unit {0}) Fault) → FailsFirst outcome old new end
    → EndsAs w (with_print outcome) (at (Some w) old) (at (Some w) new) written end
print_fails w outcome old new written (Ok u) h = absurd h
print_fails w outcome old new written (Err fault) h =
    subst (λ (f : Fault). EndsAs {U = Unit {0}} w (with_print outcome) (at (Some w) old) (at (Some w) new) written (Err f))
    (sym h.2)
    (ends_early w (with_print outcome) (at (Some w) old) (at (Some w) new) written (Run h.0 h.1)
    (run_fails w h.1 with_print h.0 outcome (λ fault. ap (λ (x : List ℕ). Err (Fails x fault)) (sym h.3)) h.4)
    (record { files = refl; printed = h.5 }))

pub outcome_prints : (files : Option World) (outcome : Result (List ℕ) RunFault) (old new : Option (List ℕ)) (written : ℕ)
    (end : Result (Unit {0}) Fault) → PrintsOutcome outcome old new end
    → EndsFor (λ w. with_print outcome) (at files old) (at files new) written end
outcome_prints None outcome old new written end h = tt
outcome_prints (Some w) outcome old new written end h =
    elim h [
      | inl f ↦ print_fails w outcome old new written end f
      | inr p ↦ prints_end w standard_output p.0 (Text p.0) (with_print outcome) old new written end (ap with_print p.1) refl p.2
    ]

-- ---- an explanation

-- a topic that is not explained ends its request early
lacks_early : (w : World) (topic : Topic) (fault : Fault) → LacksTopic topic fault
    → IsEarly w (Ok (Prints standard_output (Explanation topic))) fault
lacks_early w topic fault h =
    elim h [
      | inl number ↦ rw (number.1, number.2) (refl, number.3)
      | inr other ↦ elim other [
        | inl name ↦ rw (name.1, name.2) (refl, name.3)
        | inr memory ↦ rw memory.1 tt
      ]
    ]

topic_fails : (w : World) (topic : Topic) (old new : Option (List ℕ)) (written : ℕ) (end : Result (Unit {0}) Fault)
    → FailsTopic topic old new end
    → EndsAs w (Ok (Prints standard_output (Explanation topic))) (at (Some w) old) (at (Some w) new) written end
topic_fails w topic old new written (Ok u) h = absurd h
topic_fails w topic old new written (Err fault) h =
    ends_early w (Ok (Prints standard_output (Explanation topic))) (at (Some w) old) (at (Some w) new) written fault
    (lacks_early w topic fault h.0) (record { files = refl; printed = h.1 })

explain_ends : (w : World) (topic : Topic) (old new : Option (List ℕ)) (written : ℕ) (end : Result (Unit {0}) Fault)
    → PrintsExplanation topic old new end
    → EndsAs w (Ok (Prints standard_output (Explanation topic))) (at (Some w) old) (at (Some w) new) written end
explain_ends w topic old new written end h =
    elim h [
      | inl f ↦ topic_fails w topic old new written end f
      | inr p ↦ prints_end w standard_output p.0 (Explanation topic) _ old new written end refl p.1 p.2
    ]

pub explain_means : (topic : Topic) (files : Option World) (old new : Option (List ℕ)) (written : ℕ)
    (end : Result (Unit {0}) Fault) → PrintsExplanation topic old new end
    → MeansPlan (Explain topic) (at files old) (at files new) written end
explain_means topic None old new written end h = record { inputs = nothing; given = tt; ends = tt }
explain_means topic (Some w) old new written end h =
    record { inputs = nothing; given = (tt, tt, tt); ends = explain_ends w topic old new written end h }

-- ---- two texts that are saved

both_stop : (w : World) (out undo : List ℕ) (texts : Texts) (done : Done) (planned : Result Action Why) (new : Option World)
    (printed : Option (List ℕ)) (written n : ℕ) (some : Which) (at_path : List ℕ)
    → planned ≡ Ok (SavesBoth out undo texts) → AreTexts texts done → at_path ≡ path_of some out undo → n ≡ written
    → SpoilsPair (Some w) new undo done.undo out done.out
    → IsStopped planned some n at_path (at (Some w) printed) (at new printed) written
both_stop w out undo texts done planned new printed written n some at_path e are p c h = record {
  action = SavesBoth out undo texts;
  is_planned = e;
  stops = (p, c, record { done = done; are = are; files = h; printed = Keeps-refl printed });
}

pub both_end : (w : World) (out undo : List ℕ) (texts : Texts) (done : Done) (planned : Result Action Why) (new : Option World)
    (printed : Option (List ℕ)) (written : ℕ) (end : Result (Unit {0}) Fault)
    → planned ≡ Ok (SavesBoth out undo texts) → AreTexts texts done → SavesPairAt out undo done (Some w) new written end
    → EndsAs w planned (at (Some w) printed) (at new printed) written end
both_end w out undo texts done planned new printed written (Ok u) e are h = record {
  action = SavesBoth out undo texts;
  is_planned = e;
  does = record { done = done; are = are; files = h; printed = Keeps-refl printed };
}
both_end w out undo texts done planned new printed written (Err (Run (run.Write some n) p)) e are h =
    both_stop w out undo texts done planned new printed written n some p.now e are h.0 h.1 h.2
both_end w out undo texts done planned new printed written (Err (Run run.Memory p)) e are h =
    memory_fails planned (at (Some w) printed) (at new printed) (untouched (Some w) new printed h)
both_end w out undo texts done planned new printed written (Err PipeClosed) e are h = record {
  action = SavesBoth out undo texts;
  is_planned = e;
  some = Out;
  n = written;
  at = out;
  stops = (refl, refl, record { done = done; are = are; files = h; printed = Keeps-refl printed });
}
both_end w out undo texts done planned new printed written (Err (Words x)) e are h = absurd h
both_end w out undo texts done planned new printed written (Err NotText) e are h = absurd h
both_end w out undo texts done planned new printed written (Err (RowFile row why)) e are h = absurd h
both_end w out undo texts done planned new printed written (Err (RowRecording row why)) e are h = absurd h
both_end w out undo texts done planned new printed written (Err (FolderThere path)) e are h = absurd h
both_end w out undo texts done planned new printed written (Err (HasFindings path)) e are h = absurd h
both_end w out undo texts done planned new printed written (Err (NoNumber n)) e are h = absurd h
both_end w out undo texts done planned new printed written (Err (NoName n)) e are h = absurd h
both_end w out undo texts done planned new printed written (Err (File p f)) e are h = absurd h
both_end w out undo texts done planned new printed written (Err (Output f p)) e are h = absurd h
both_end w out undo texts done planned new printed written (Err (Run (run.Read f) p)) e are h = absurd h
both_end w out undo texts done planned new printed written (Err (Run (run.ReadFirst f) p)) e are h = absurd h
both_end w out undo texts done planned new printed written (Err (Run (run.ReadSecond f) p)) e are h = absurd h
both_end w out undo texts done planned new printed written (Err (Run (run.Script f) p)) e are h = absurd h
both_end w out undo texts done planned new printed written (Err (Run (run.Refused n f) p)) e are h = absurd h
both_end w out undo texts done planned new printed written (Err (Run (run.NotNeutral n) p)) e are h = absurd h
both_end w out undo texts done planned new printed written (Err (Run run.OtherVersion p)) e are h = absurd h
both_end w out undo texts done planned new printed written (Err (Run run.PlanFailed p)) e are h = absurd h
both_end w out undo texts done planned new printed written (Err (Run (run.ReadFrom f) p)) e are h = absurd h
both_end w out undo texts done planned new printed written (Err (Run (run.Presets f) p)) e are h = absurd h
both_end w out undo texts done planned new printed written (Err (Run (run.Full f) p)) e are h = absurd h
both_end w out undo texts done planned new printed written (Err (Run (run.Notes f) p)) e are h = absurd h
both_end w out undo texts done planned new printed written (Err (Run (run.Recording f) p)) e are h = absurd h
both_end w out undo texts done planned new printed written (Err (Run (run.Table f) p)) e are h = absurd h
both_end w out undo texts done planned new printed written (Err (Run (run.InRecording i f) p)) e are h = absurd h
both_end w out undo texts done planned new printed written (Err (Run (run.NoMember f) p)) e are h = absurd h

pub both_saved : (files new : Option World) (out undo : List ℕ) (done : Done) (outcome : Result Done RunFault)
    (printed : Option (List ℕ)) (written : ℕ) (end : Result (Unit {0}) Fault)
    → outcome ≡ Ok done → SavesPairAt out undo done files new written end
    → EndsFor (λ w. with_both out undo outcome) (at files printed) (at new printed) written end
both_saved None new out undo done outcome printed written end e h = tt
both_saved (Some w) new out undo done outcome printed written end e h =
    both_end w out undo (Known done) done (with_both out undo outcome) new printed written end (ap (with_both out undo) e) refl h

pub both_fail : (files : Option World) (printed : Option (List ℕ)) (written : ℕ) (out : Bor (List ℕ)) (undo : List ℕ)
    (why : RunFault) (outcome : Result Done RunFault) → FailsBefore why outcome
    → EndsFor {U = Unit {0}} (λ w. with_both out.now undo outcome) (at files printed) (at files printed) written (Err (Run why out))
both_fail files printed written out undo why outcome h =
    outcome_fails files printed written out (λ w r. with_both out.now undo r) why outcome (λ w fault. refl) h

-- ---- a difference

pub difference_put : (comments : Bool) (path a b : List ℕ) (old new : Outside) (written : ℕ) (end : Result (Unit {0}) Fault)
    → two_banks_of a b ≡ Ok (banks_in a b)
    → EndsFor (λ w. Ok (put_at w path (Difference comments a b))) old new written end
    → EndsFor (λ w. with_difference w path comments a b (two_banks_of a b)) old new written end
difference_put comments path a b old new written end e h =
    subst (λ (r : Result TwoBanks RunFault). EndsFor (λ w. with_difference w path comments a b r) old new written end) (sym e) h

-- why two banks have no difference, as a run's fault
no_difference : {X : Type 0} (comments : Bool) (view : X → List ℕ) (a b : List ℕ) (why : RunFault)
    → FindsDifference comments view a b (Err why)
    → FailsBefore why (two_banks_of a b)
no_difference comments view a b (run.Read f) h = h
no_difference comments view a b (run.ReadFirst f) h = h
no_difference comments view a b (run.ReadSecond f) h = h
no_difference comments view a b (run.Script f) h = h
no_difference comments view a b (run.Refused n f) h = h
no_difference comments view a b (run.NotNeutral n) h = h
no_difference comments view a b run.OtherVersion h = h
no_difference comments view a b run.PlanFailed h = h
no_difference comments view a b (run.ReadFrom f) h = h
no_difference comments view a b (run.Presets f) h = h
no_difference comments view a b (run.Full f) h = h
no_difference comments view a b (run.Notes f) h = h
no_difference comments view a b (run.Recording f) h = h
no_difference comments view a b (run.Table f) h = h
no_difference comments view a b (run.InRecording i f) h = h
no_difference comments view a b (run.NoMember f) h = h
no_difference comments view a b run.Memory h = tt
no_difference comments view a b (run.Write f n) h = absurd h

pub difference_fails : {X : Type 0} (comments : Bool) (view : X → List ℕ) (files : Option World) (printed : Option (List ℕ)) (written : ℕ)
    (path : Bor (List ℕ)) (a b : List ℕ) (why : RunFault) → FindsDifference comments view a b (Err why)
    → EndsFor {U = Unit {0}} (λ w. with_difference w path.now comments a b (two_banks_of a b)) (at files printed) (at files printed) written
    (Err (Run why path))
difference_fails comments view files printed written path a b why h =
    outcome_fails files printed written path (λ w r. with_difference w path.now comments a b r) why (two_banks_of a b) (λ w fault. refl)
    (no_difference comments view a b why h)

-- ---- an outcome that is another one

pub prints_same : (one other : Result (List ℕ) RunFault) (old new : Option (List ℕ)) (end : Result (Unit {0}) Fault)
    → one ≡ other → PrintsOutcome other old new end → PrintsOutcome one old new end
prints_same one other old new end e h =
    subst (λ (r : Result (List ℕ) RunFault). PrintsOutcome r old new end) (sym e) h

pub prints_text : (outcome : Result (List ℕ) RunFault) (text : List ℕ) (old new : Option (List ℕ))
    (end : Result (Unit {0}) Fault) → outcome ≡ Ok text → PrintsAt standard_output text old new end
    → PrintsOutcome outcome old new end
prints_text outcome text old new end e h = inr (text, e, h)

-- ---- the program

-- a run whose words may ask for explanations is explained at least on a terminal
pub explained_ends : (is_terminal asks : Bool) (old new : Option (List ℕ)) (status : ℕ)
    → Ends (is_terminal || asks) old new status → EndsExplained is_terminal old new status
explained_ends is_terminal asks old new status h = (is_terminal || asks, λ e. rw e refl, h)
