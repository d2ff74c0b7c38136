-- Edits in order, and one more.
use Rattle.std.proofs.Common.{◌++◌, List, [], ◌∷◌, refl, sym, subst}
use Rattle.std.specs.Prelude.{Result, Ok, Err}
use Rattle.bank_parts.specs.declared.parts.Parts.{Parts}
use Rattle.edit_forms.specs.declared.step.Step.{Step}
use Rattle.edit_forms.specs.declared.edit.Edit.{Edit}
use Rattle.edit_forms.specs.declared.edit.Edit.TheVariants.{One}
use Rattle.edit_refusals.specs.Edits.{raw}
use Rattle.script_of_bank.specs.LeadsTo.{Leads}
use Rattle.script_of_bank.proofs.SequenceLaws.{after-then, is_accepted-then}
use Rattle.edit_drafts.specs.Drafts.{IsStepResult}

pub leads_on : {Why : Type 0} → (first old new : Parts) (was now : List Edit) (s : Step) (r : Result (Unit {0}) Why)
    → IsStepResult old new was now s r → Leads first was old → Leads first now new
leads_on first old new was now s (Ok done) d l =
    let more : Leads first (was ++ One s ∷ []) (raw old (One s)) = record {
      is_accepted = is_accepted-then first old was (One s ∷ []) l.given l.is_accepted (d.is_accepted, tt);
      given = after-then first old (raw old (One s)) was (One s ∷ []) l.given refl;
    } in
    subst (λ (b : Parts). Leads first now b) (sym d.changed)
    (subst (λ (es : List Edit). Leads first es (raw old (One s))) (sym d.listed) more)
leads_on first old new was now s (Err why) d l =
    subst (λ (b : Parts). Leads first now b) (sym d.bank)
    (subst (λ (es : List Edit). Leads first es old) (sym d.list) l)
