-- The runs and commands that list the findings of a bank, or write its page.
use Rattle.std.proofs.Common.{◌≡◌, ◌==◌, ◌∙◌, ◌&&◌, ℕ, length, Bool, true, false, not, List, Option, Some, None, Result, Ok, Err, ap, refl, subst, sym, inl, inr}
use Rattle.std.proofs.KnownBytes.{Keeps-refl}
use Rattle.std.specs.Io.KnownBytes.{Appends}
use Rattle.std.specs.Prelude.{if◌then◌else◌}
use Rattle.bank_parts.specs.declared.parts.Parts.{Parts}
use Rattle.file_host.specs.World.{World}
use Rattle.file_host.specs.declared.faults.Which.TheVariants.{Out}
use Rattle.show_findings.specs.declared.finding.Finding.{Finding}
use Rattle.show_findings.specs.Findings.{AreFindings}
use Rattle.program_commands.specs.declared.words.CheckPaths.{CheckPaths}
use Rattle.program_reports.specs.declared.fault.Fault.{Fault}
use Rattle.program_reports.specs.declared.fault.Fault.TheVariants.{HasFindings}
use Rattle.program_reports.specs.declared.run_fault.RunFault.{RunFault}
use Rattle.sfbank.specs.Ends.{EndsAs, EndsFor, FindsSome, Outside}
use Rattle.sfbank.specs.Findings.{RunsSome, finding_lines}
use Rattle.sfbank.specs.FolderPlans.{bank_outcome}
use Rattle.sfbank.specs.Outputs.{PrintsAt}
use Rattle.sfbank.specs.PlanParts.{Action, Checks, Findings, Page, Prints, Why, put_at, standard_output, with_findings}
use Rattle.sfbank.specs.PlanParts.{with_page}
use Rattle.sfbank.specs.Written.{FailsBefore, IsWritten}
use Rattle.sfbank.proofs.OutcomeLaws.{print_ends, prints_end}
use Rattle.sfbank.proofs.PlanLaws.{at}

-- ---- runs

pub some_written : {U : Type 0} (IsText : Parts → List ℕ → Type 0) (old new : Option (List ℕ)) (file : List ℕ) (b : Parts)
    (text : List ℕ) (r : Result U RunFault) → bank_outcome file ≡ Ok b → IsText b text → IsWritten Out old new text r
    → RunsSome IsText old new file r
some_written IsText old new file b text r read is writes =
    inr (record { bank = b; is_bank = read; text = text; is_text = is; writes = writes })

pub none_written : {U : Type 0} (IsText : Parts → List ℕ → Type 0) (known : Option (List ℕ)) (file : List ℕ)
    (fault : RunFault) → FailsBefore fault (bank_outcome file) → RunsSome {U = U} IsText known known file (Err fault)
none_written IsText known file fault h = inl (h, Keeps-refl known)

-- ---- the command `check`

-- the plan of a check where nothing is a fault
lists : (p : CheckPaths) (b : Parts) (outcome : Result Parts RunFault) → outcome ≡ Ok b → p.strict ≡ false
    → with_findings p outcome ≡ Ok (Prints standard_output (Findings b))
lists p b outcome read strict =
    ap (with_findings p) read
    ∙ ap (λ (s : Bool). Ok (if s then Checks p.input.now b else Prints standard_output (Findings b))) strict

-- and where a finding is one
checks : (p : CheckPaths) (b : Parts) (outcome : Result Parts RunFault) → outcome ≡ Ok b → p.strict ≡ true
    → with_findings p outcome ≡ Ok (Checks p.input.now b)
checks p b outcome read strict =
    ap (with_findings p) read
    ∙ ap (λ (s : Bool). Ok (if s then Checks p.input.now b else Prints standard_output (Findings b))) strict

no_findings : (e : Bool) → not e ≡ false → e ≡ true
no_findings true h = refl
no_findings false h = absurd cc

-- findings are printed, or not whole
pub findings_end : (p : CheckPaths) (b : Parts) (fs : List Finding) (outcome : Result Parts RunFault)
    (files : Option World) (old new : Option (List ℕ)) (written : ℕ) (end : Result (Unit {0}) Fault)
    → outcome ≡ Ok b → AreFindings b fs → ((u : Unit {0}) → end ≡ Ok u → (p.strict && not (length fs == 0)) ≡ false)
    → PrintsAt standard_output (finding_lines b fs) old new end
    → EndsFor (λ w. with_findings p outcome) (at files old) (at files new) written end
findings_end p b fs outcome None old new written end read are none h = tt
findings_end p b fs outcome (Some w) old new written end read are none h = go p.strict refl none
  where
    go : (s : Bool) → p.strict ≡ s → ((u : Unit {0}) → end ≡ Ok u → (s && not (length fs == 0)) ≡ false)
        → EndsAs w (with_findings p outcome) (at (Some w) old) (at (Some w) new) written end
    go false strict ok =
        prints_end w standard_output (finding_lines b fs) (Findings b) _ old new written end (lists p b outcome read strict)
        (record { findings = fs; are = are; is = refl }) h
    go true strict ok =
        print_ends w standard_output (finding_lines b fs) (Checks p.input.now b) _ old new written end
        (checks p b outcome read strict)
        (λ u done all. record {
          findings = fs;
          are = are;
          some = no_findings (length fs == 0) (ok u done);
          printed = all;
          files = refl;
        })
        (λ n first. (
          refl,
          record {
            text = finding_lines b fs;
            is = record { findings = fs; are = are; is = refl };
            within = first.0;
            printed = first.1;
            files = refl;
          },
        )) h

-- findings are printed, and are a fault
pub findings_found : (p : CheckPaths) (b : Parts) (fs : List Finding) (outcome : Result Parts RunFault)
    (files : Option World) (old new : Option (List ℕ)) (written : ℕ) → outcome ≡ Ok b → AreFindings b fs
    → p.strict ≡ true → (length fs == 0) ≡ false → Appends old new (finding_lines b fs)
    → EndsFor {U = Unit {0}} (λ w. with_findings p outcome) (at files old) (at files new) written (Err (HasFindings p.input))
findings_found p b fs outcome None old new written read are strict some h = tt
findings_found p b fs outcome (Some w) old new written read are strict some h =
    let Ends : Result Action Why → Type 0 = λ planned. FindsSome planned p.input.now (at (Some w) old) (at (Some w) new) in
    subst Ends (sym (checks p b outcome read strict))
    (refl, record { findings = fs; are = are; some = some; printed = h; files = refl })

-- ---- the command `page`

pub page_put : (path : List ℕ) (b : Parts) (outcome : Result Parts RunFault) (old new : Outside) (written : ℕ)
    (end : Result (Unit {0}) Fault) → outcome ≡ Ok b → EndsFor (λ w. Ok (put_at w path (Page b))) old new written end
    → EndsFor (λ w. with_page w path outcome) old new written end
page_put path b outcome old new written end e h =
    subst (λ (o : Result Parts RunFault). EndsFor (λ w. with_page w path o) old new written end) (sym e) h
