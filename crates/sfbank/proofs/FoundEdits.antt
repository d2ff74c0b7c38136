-- How edits that are found make the end of a request.
use Rattle.std.proofs.Common.{◌≡◌, ℕ, List, Option, Some, None, Result, Ok, Err, Bool, true, false, refl, sym, ap, subst, inl, inr, ◌∙◌}
use Rattle.std.specs.Prelude.{if◌then◌else◌, not}
use Rattle.std.specs.Borrow.{Bor}
use Rattle.bank_parts.specs.declared.parts.Parts.{Parts}
use Rattle.bank_format.specs.Reading.{Content}
use Rattle.bank_format.specs.ReadChecks.{fault_of}
use Rattle.bank_format.specs.declared.fault.ReadFault.{ReadFault}
use Rattle.edit_forms.specs.declared.edit.Edit.{Edit}
use Rattle.bank_edits.specs.Runs.{AllAccepted}
use Rattle.sfbank.specs.EditTexts.{edits_text}
use Rattle.file_host.specs.World.{World}
use Rattle.plan_edits.specs.declared.fault.PlanFault.{PlanFault}
use Rattle.plan_presets.specs.declared.numbers.PresetNumbers.{PresetNumbers}
use Rattle.plan_edits.specs.declared.fault.PlanFault.TheVariants.{Full, Defect, OutOfMemory}
use Rattle.program_commands.specs.declared.plans.PlanPaths.{PlanPaths}
use Rattle.program_reports.specs.declared.fault.Fault.{Fault}
use Rattle.program_reports.specs.declared.fault.Fault.TheVariants.{Run}
use Rattle.program_reports.specs.declared.run_fault.RunFault.{RunFault}
use Rattle.program_reports.specs.declared.run_fault.RunFault.TheVariants as run
use Rattle.sfbank.specs.Outcome.{Done, after_reading, bank_in, both_texts}
use Rattle.sfbank.specs.Written.{FailsBefore}
use Rattle.sfbank.specs.Purposes.{Purpose, keeping_listed, promise_of}
use Rattle.sfbank.specs.PlannedEdits.{IsPlanned, IsScript, of_plan}
use Rattle.sfbank.specs.PlanParts.{Action, Why, Edits, Found, Prints, SavesAll, edits_at, saves_found}
use Rattle.sfbank.specs.PlanParts.{standard_output, with_edits}
use Rattle.sfbank.specs.Ends.{EndsAs, FindsEdits, Outside, EndsFor}
use Rattle.sfbank.specs.Outputs.{PrintsOrFails, SavesPairAt}
use Rattle.sfbank.specs.Steps.{IsReadAs}
use Rattle.sfbank.proofs.PlanLaws.{at, memory_fails, untouched}
use Rattle.sfbank.proofs.OutcomeLaws.{both_end, outcome_fails, prints_end}
use Rattle.sfbank.proofs.PlannedEdits.{planned}

-- the action, printed or saved
abbrev chosen : PlanPaths → Purpose → List ℕ → Bool → Result Action Why
chosen p purpose file dry_run =
    Ok (if dry_run then Prints standard_output (Edits (not p.no_comments) purpose file)
    else saves_found p.script p.out.now p.undo.now (not p.no_comments) purpose file)

-- the same for a script at this path, or for none
abbrev saved_for : PlanPaths → Purpose → List ℕ → Option (Bor (List ℕ)) → Result Action Why
saved_for p purpose file script = Ok (saves_found script p.out.now p.undo.now (not p.no_comments) purpose file)

-- the edits that are found are the script's
pub is_script : (comments : Bool) (purpose : Purpose) (file : List ℕ) (b : Parts) (edits : List Edit) → IsReadAs file b
    → promise_of purpose b edits → AllAccepted b edits
    → IsScript comments (promise_of purpose) file (edits_text comments b edits)
is_script comments purpose file b edits r promised accepted =
    let same : b ≡ bank_in file = sym (ap (λ (c : Content). c.bank) r.1.1) in
    record {
      edits = edits;
      promised = subst (λ (x : Parts). promise_of purpose x edits) same promised;
      is_accepted = subst (λ (x : Parts). AllAccepted x edits) same accepted;
      is_text = ap (λ (x : Parts). edits_text comments x edits) same;
    }

-- and their texts are those of the edited bank
unfoldable pub is_planned : (purpose : Purpose) (file : List ℕ) (b : Parts) (edits : List Edit) (done : Done) → IsReadAs file b
    → promise_of purpose b edits → AllAccepted b edits → done ≡ both_texts b edits
    → IsPlanned (promise_of purpose) file done
is_planned purpose file b edits done r promised accepted texts =
    planned (promise_of purpose) file b r.0 done r.1
    (record { edits = edits; promised = promised; is_accepted = accepted; texts = texts })

-- their script is printed
pub edits_print : (files : Option World) (p : PlanPaths) (purpose : Purpose) (file text : List ℕ)
    (old new : Option (List ℕ)) (written : ℕ) (end : Result (Unit {0}) Fault) → p.dry_run ≡ true
    → IsScript (not p.no_comments) (promise_of purpose) file text → PrintsOrFails text old new end
    → EndsFor (λ w. Ok (edits_at p purpose file)) (at files old) (at files new) written end
edits_print None p purpose file text old new written end dry is h = tt
edits_print (Some w) p purpose file text old new written end dry is h =
    let planned : Result Action Why = Ok (edits_at p purpose file) in
    elim h [
      | inl m ↦
          subst
          (λ (r : Result (Unit {0}) Fault). EndsAs w planned (at (Some w) old) (at (Some w) new) written r)
          (sym m.1)
          (memory_fails planned (at (Some w) old) (at (Some w) new) (record { files = refl; printed = m.2 }))
      | inr printed ↦
          prints_end w standard_output text (Edits (not p.no_comments) purpose file) planned old new written end
          (ap (chosen p purpose file) dry) is printed
    ]

-- both texts are saved
pub edits_saved : (files new : Option World) (p : PlanPaths) (purpose : Purpose) (file : List ℕ) (done : Done)
    (printed : Option (List ℕ)) (written : ℕ) (end : Result (Unit {0}) Fault) → p.dry_run ≡ false → p.script ≡ None
    → IsPlanned (promise_of purpose) file done → SavesPairAt p.out.now p.undo.now done files new written end
    → EndsFor (λ w. Ok (edits_at p purpose file)) (at files printed) (at new printed) written end
edits_saved None new p purpose file done printed written end saves none is h = tt
edits_saved (Some w) new p purpose file done printed written end saves none is h =
    both_end w p.out.now p.undo.now (Found purpose file) done (Ok (edits_at p purpose file)) new printed written end
    (ap (chosen p purpose file) saves ∙ ap (saved_for p purpose file) none) is h

-- all three texts are saved
pub all_saved : (files new : Outside) (p : PlanPaths) (script : Bor (List ℕ)) (purpose : Purpose) (file : List ℕ)
    (written : ℕ) (end : Result (Unit {0}) Fault) → p.dry_run ≡ false → p.script ≡ Some script
    → EndsFor (λ w. Ok (SavesAll script.now p.out.now p.undo.now (not p.no_comments) purpose file)) files new written end
    → EndsFor (λ w. Ok (edits_at p purpose file)) files new written end
all_saved files new p script purpose file written end saves some h =
    subst (λ (r : Result Action Why). EndsFor (λ w. r) files new written end)
    (sym (ap (chosen p purpose file) saves ∙ ap (saved_for p purpose file) some)) h

finds_saved : (p : PlanPaths) (purpose : Purpose) (file : List ℕ) (script : Option (Bor (List ℕ)))
    → FindsEdits (saved_for p purpose file script)
finds_saved p purpose file None = tt
finds_saved p purpose file (Some script) = tt

finds_edits : (p : PlanPaths) (purpose : Purpose) (file : List ℕ) (dry_run : Bool)
    → FindsEdits (chosen p purpose file dry_run)
finds_edits p purpose file true = tt
finds_edits p purpose file false = finds_saved p purpose file p.script

-- none are found, or an allocation failed
pub no_edits : (files : Option World) (printed : Option (List ℕ)) (written : ℕ) (p : PlanPaths) (purpose : Purpose)
    (file : List ℕ) (path : Bor (List ℕ)) (fault : PlanFault)
    → EndsFor {U = Unit {0}} (λ w. Ok (edits_at p purpose file)) (at files printed) (at files printed) written
    (Err (Run (of_plan fault) path))
no_edits None printed written p purpose file path fault = tt
no_edits (Some w) printed written p purpose file path (Full limit) =
    (inr (finds_edits p purpose file p.dry_run), untouched (Some w) (Some w) printed refl)
no_edits (Some w) printed written p purpose file path Defect =
    (inr (finds_edits p purpose file p.dry_run), untouched (Some w) (Some w) printed refl)
no_edits (Some w) printed written p purpose file path OutOfMemory =
    memory_fails (Ok (edits_at p purpose file)) (at (Some w) printed) (at (Some w) printed)
    (untouched (Some w) (Some w) printed refl)

-- ---- for a file and a purpose

pub edits_put : (p : PlanPaths) (purpose : Purpose) (file : List ℕ) (outcome : Result Purpose RunFault)
    (old new : Outside) (written : ℕ) (end : Result (Unit {0}) Fault) → outcome ≡ Ok purpose
    → EndsFor (λ w. Ok (edits_at p purpose file)) old new written end
    → EndsFor (λ w. with_edits p file outcome) old new written end
edits_put p purpose file outcome old new written end e h =
    subst (λ (r : Result Purpose RunFault). EndsFor (λ w. with_edits p file r) old new written end) (sym e) h

pub edits_fail : (files : Option World) (printed : Option (List ℕ)) (written : ℕ) (p : PlanPaths) (file : List ℕ)
    (why : RunFault) (outcome : Result Purpose RunFault) → FailsBefore why outcome
    → EndsFor {U = Unit {0}} (λ w. with_edits p file outcome) (at files printed) (at files printed) written (Err (Run why p.out))
edits_fail files printed written p file why outcome h =
    outcome_fails files printed written p.out (λ w r. with_edits p file r) why outcome (λ w fault. refl) h

-- the outcome of a file that is a bank
pub at_read : (file : List ℕ) (b : Parts) (outcome : Result Purpose RunFault) → IsReadAs file b
    → after_reading (fault_of file) outcome ≡ outcome
at_read file b outcome r = ap (λ (o : Option ReadFault). after_reading o outcome) r.1.0

-- the same for presets that are listed
pub listed_at : (file : List ℕ) (b : Parts) (list : List PresetNumbers) → IsReadAs file b
    → after_reading (fault_of file) (keeping_listed (bank_in file) list) ≡ keeping_listed b list
listed_at file b list r =
    at_read file b (keeping_listed (bank_in file) list) r
    ∙ ap (λ (x : Parts). keeping_listed x list) (ap (λ (c : Content). c.bank) r.1.1)
