-- Neutral steps of a draft keep the voices of each note.
use Rattle.std.proofs.Common.{◌≡◌, true, List, [], ◌∷◌, ◌++◌, Result, Ok, Err, refl, sym, subst, ◌∙◌}
use Rattle.bank_parts.specs.declared.parts.Parts.{Parts}
use Rattle.bank_parts.specs.Sound.{IsSound}
use Rattle.edit_forms.specs.declared.step.Step.{Step}
use Rattle.edit_forms.specs.declared.edit.Edit.{Edit}
use Rattle.edit_forms.specs.declared.edit.Edit.TheVariants.{One}
use Rattle.edit_forms.specs.Steps.{is_neutral_step}
use Rattle.bank_edits.specs.Runs.{after_all}
use Rattle.script_of_bank.specs.LeadsTo.{Leads}
use Rattle.edit_drafts.specs.Drafts.{Drafted, IsStepResult}
use Rattle.zone_select.specs.Alike.{AreAlike}
use Rattle.mixer.specs.Render.{render}
use Rattle.mixer.proofs.AlikeLaws.{AreAlike-refl, AreAlike-trans, alike_render}
use Rattle.sound_neutral_edits.proofs.FormLaws.{neutral_alike}
use Rattle.plan_edits.specs.Uses.{HasNoUnused}
use Rattle.plan_edits.specs.NeutralRuns.{AreNeutral, AddsNeutralEdits}
use Rattle.plan_edits.specs.Tidying.{IsTidying}

neutral_after : (es : List Edit) (e : Edit) → AreNeutral es → AreNeutral (e ∷ []) → AreNeutral (es ++ e ∷ [])
neutral_after [] e h g = g
neutral_after (d ∷ es) e h g = (h.0, neutral_after es e h.1 g)

-- one step
pub adds_step : {Why : Type 0} → (old new : Drafted) (s : Step) (r : Result (Unit {0}) Why) → IsSound old.bank
    → is_neutral_step s ≡ true → new.first ≡ old.first → IsStepResult old.bank new.bank old.edits new.edits s r
    → AddsNeutralEdits old new
adds_step old new s (Ok done) sound n first d = record {
  first = first;
  alike = subst (AreAlike old.bank) (sym d.changed) (neutral_alike old.bank (One s) sound d.is_accepted n);
  neutral = λ h. subst AreNeutral (sym d.listed) (neutral_after old.edits (One s) h (n, tt));
}
adds_step old new s (Err why) sound n first d = record {
  first = first;
  alike = subst (AreAlike old.bank) (sym d.bank) (AreAlike-refl old.bank);
  neutral = λ h. subst AreNeutral (sym d.list) h;
}

pub adds_none : (d : Drafted) → AddsNeutralEdits d d
adds_none d = record { first = refl; alike = AreAlike-refl d.bank; neutral = λ h. h }

pub adds_both : (a b c : Drafted) → AddsNeutralEdits a b → AddsNeutralEdits b c → AddsNeutralEdits a c
adds_both a b c h g = record {
  first = g.first ∙ h.first;
  alike = AreAlike-trans a.bank b.bank c.bank h.alike g.alike;
  neutral = λ n. g.neutral (h.neutral n);
}

-- all edits of a draft of a bank
pub tidying : (b : Parts) (old new : Drafted) (edits : List Edit) → old.first ≡ b → old.bank ≡ b → old.edits ≡ []
    → AddsNeutralEdits old new → Leads new.first edits new.bank → edits ≡ new.edits → HasNoUnused new.bank → IsTidying b edits
tidying b old new edits first bank none adds leads are used =
    let given : after_all b edits ≡ new.bank =
    subst (λ f. after_all f edits ≡ new.bank) (adds.first ∙ first) leads.given in
    record {
      is_accepted = (subst (λ f. Leads f edits new.bank) (adds.first ∙ first) leads).is_accepted;
      neutral = subst AreNeutral (sym are) (adds.neutral (subst AreNeutral (sym none) tt));
      same =
          λ ns.
          subst (λ (c : Parts). render b ns ≡ render c ns) (sym given)
          (alike_render b new.bank (subst (λ (c : Parts). AreAlike c new.bank) bank adds.alike) ns);
      used = subst HasNoUnused (sym given) used;
    }
