-- On files: what `apply` makes of the scripts that `diff` and `script` saved.
use Rattle.std.proofs.Common.{◌≡◌, ℕ, List, None, Result, Ok, Err, Bool, true, false, refl, sym, ap, ◌∙◌}
use Rattle.std.specs.Prelude.{if◌then◌else◌, not, ◌&&◌}
use Rattle.hydra_records.specs.Records.{AreBytes}
use Rattle.bank_format.specs.Canon.{canon}
use Rattle.bank_format.specs.ReadChecks.{fault_of}
use Rattle.base_outputs.specs.declared.output_fault.OutputFault.TheVariants.{HoldsBank}
use Rattle.sfbank.specs.declared.script.ScriptForm.{ScriptForm}
use Rattle.file_host.specs.declared.input_fault.InputFault.{InputFault}
use Rattle.file_host.specs.World.{World, held_at, file_at}
use Rattle.file_host.specs.Checks.{is_bank_at}
use Rattle.program_commands.specs.declared.words.ApplyPaths.{ApplyPaths}
use Rattle.program_reports.specs.declared.run_fault.RunFault.{RunFault}
use Rattle.sfbank.specs.Outcome.{Done, bank_in, outcome, play_outcome}
use Rattle.sfbank.specs.EditRuns.{outcome_of}
use Rattle.sfbank.specs.BankScripts.{form_text, script_outcome, whole_form}
use Rattle.sfbank.specs.Differences.{TwoBanks, two_banks_of}
use Rattle.sfbank.specs.PlanParts.{Action, Why, Rejected, Saves, Prints, Text, Difference, form_of, points_of, unless}
use Rattle.sfbank.specs.PlanParts.{with_difference}
use Rattle.sfbank.specs.PlanParts as plans
use Rattle.sfbank.specs.ScriptFiles.{RunsScript, Leads, DifferencesLead, ScriptsLead}
use Rattle.sfbank.specs.UndoneFiles.{IsApplied}
use Rattle.sfbank.proofs.Neutral.{of_every}
use Rattle.sfbank.proofs.Restores.{reading_done}
use Rattle.sfbank.proofs.BankScripts.{remade}
use Rattle.sfbank.proofs.Differences.{second_is_read}
use Rattle.sfbank.proofs.RenderLaws.{played_on_canon}
use Rattle.sfbank.proofs.UndoneFiles.{held_text, pair_out, unless_done, applied_outcome, second_read, ok_same}

-- ---- what was planned

difference_planned : (w : World) (path : List ℕ) (comments : Bool) (a b : List ℕ) (r : Result TwoBanks RunFault) (action : Action)
    → with_difference w path comments a b r ≡ Ok action → (banks : TwoBanks) × (r ≡ Ok banks)
difference_planned w path comments a b (Ok banks) action e = (banks, refl)
difference_planned w path comments a b (Err fault) action e = cc

saved_or_printed : (b : Bool) (path x text : List ℕ)
    → (if b then Prints path (Text x) else Saves path (Text x)) ≡ Saves path (Text text) → x ≡ text
saved_or_printed true path x text e = cc
saved_or_printed false path x text e = cc

ok_action : (x y : Action) (r : Result Action Why) → r ≡ Ok x → r ≡ Ok y → x ≡ y
ok_action x y r e h = cc

text_planned : (w : World) (path text : List ℕ) (r : Result (List ℕ) RunFault)
    → plans.with_text w path r ≡ Ok (Saves path (Text text)) → r ≡ Ok text
text_planned w path text (Ok x) e =
    ap Ok (saved_or_printed (w.paths.is_output path) path x text
    (ok_action (plans.put_at w path (Text x)) (Saves path (Text text)) (Ok (plans.put_at w path (Text x))) refl e))
text_planned w path text (Err fault) e = cc

-- ---- what was run

one_file : (r : Result (List ℕ) InputFault) (x y : List ℕ) → r ≡ Ok x → r ≡ Ok y → x ≡ y
one_file r x y e h = cc

-- the outcome of a script that was left
script_gives : (second : ApplyPaths) (path text : List ℕ) (left now new : World) (start file script : List ℕ) (back : Done)
    → held_at left path ≡ Ok text → RunsScript second path left now new start file script back
    → outcome start text ≡ Ok back
script_gives second path text left now new start file script back held h =
    let same_script : text ≡ script =
    second_read now left path text second.script.now script h.script_is h.stays held h.done.read_script in
    let same_file : start ≡ file = one_file (file_at now second.input.now) start file h.starts h.done.read in
    sym (of_every start text)
    ∙ (λ i. outcome_of (sym h.forms i) (same_file i) (same_script i))
    ∙ applied_outcome second now new file script back h.done

leads_to : (second : ApplyPaths) (now new : World) (bank file script undo : List ℕ) (back : Done) → AreBytes bank
    → fault_of bank ≡ None → IsApplied second now new file script back
    → back ≡ record { out = canon (bank_in bank); undo = undo } → Leads second now new bank back
leads_to second now new bank file script undo back bytes read b is =
    let out : back.out ≡ canon (bank_in bank) = ap (λ (d : Done). d.out) is in
    record {
      bank = out;
      holds = λ stores. ap (λ (w : World). held_at w second.out.now) b.files
          ∙ pair_out now second.undo.now back.undo second.out.now back.out stores ∙ ap Ok out;
      sound = λ notes. ap (λ (x : List ℕ). play_outcome x notes) out ∙ played_on_canon bank notes bytes read;
    }

pub differences_lead : DifferencesLead
differences_lead paths second old left now new a b text file script back bytes c stores h =
    let test = not paths.force && is_bank_at old paths.out.now in
    let comments = not paths.no_comments in
    let rest = with_difference old paths.out.now comments a b (two_banks_of a b) in
    let banks =
    difference_planned old paths.out.now comments a b (two_banks_of a b) (Saves paths.out.now (Difference comments a b))
    (unless_done test (Rejected paths.out.now HoldsBank) rest _ c.planned) in
    let held = ap (λ (w : World). held_at w paths.out.now) c.files ∙ held_text old paths.out.now text stores in
    let gives = script_gives second paths.out.now text left now new a file script back held h in
    leads_to second now new b file script c.differs.0.undo back bytes (second_is_read a b banks.0 banks.1) h.done
    (ok_same back _ (outcome a text) gives c.differs.0.leads)

-- a file that has a script is a bank
is_bank : (form : ScriptForm) (file text : List ℕ) → script_outcome form file ≡ Ok text → fault_of file ≡ None
unfolding script_outcome
is_bank form file text e = (reading_done (fault_of file) (Ok (form_text form (bank_in file))) text e).0

pub scripts_lead : ScriptsLead
scripts_lead paths second old left now new bank text file script back bytes c stores h =
    let test = not paths.force && is_bank_at old paths.out.now in
    let rest = plans.with_text old paths.out.now (script_outcome (form_of paths) bank) in
    let comments = not paths.no_comments in
    let all : script_outcome (whole_form comments) bank ≡ Ok text =
    (λ i. script_outcome (record { points = points_of (sym c.points i); comments = comments }) bank)
    ∙ text_planned old paths.out.now text (script_outcome (form_of paths) bank)
    (unless_done test (Rejected paths.out.now HoldsBank) rest _ c.planned) in
    let held = ap (λ (w : World). held_at w paths.out.now) c.files ∙ held_text old paths.out.now text stores in
    let gives = script_gives second paths.out.now text left now new _ file script back held h in
    let made = remade bank bytes comments text all in
    leads_to second now new bank file script made.0 back bytes (is_bank (whole_form comments) bank text all) h.done
    (ok_same back _ _ gives made.1)
