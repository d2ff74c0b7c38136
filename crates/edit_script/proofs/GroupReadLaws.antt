-- Soundness of reading: a step or a group that is read has its operands on the line.
use Rattle.std.proofs.Common.{◌≡◌, Bool, true, false, List, [], ◌∷◌, ◌++◌, codes, Ok, refl, sym, ap, subst}
use Rattle.std.proofs.Common.{append_assoc, ◌∙◌}
use Rattle.std.proofs.lemmas.List.{append-nil}
use Rattle.edit_forms.specs.declared.step.Step.{Step}
use Rattle.edit_forms.specs.declared.edit.Edit.{Edit}
use Rattle.edit_forms.specs.declared.edit.Edit.TheVariants.{One, Group}
use Rattle.script_tokens.specs.declared.cursor.TokenValue.{TokenValue}
use Rattle.script_tokens.specs.Parsers.{Parsed, pure, is_next}
use Rattle.script_tokens.proofs.ReadLaws.{AllHoldBytes}
use Rattle.script_grammar.specs.Names.{fixed}
use Rattle.script_grammar.specs.Operands.{Operand, Fixed}
use Rattle.script_grammar.proofs.ReadLaws.{PrefixEncodes, then, made, fixed_front}
use Rattle.script_grammar.proofs.RepeatedLaws.{repeated_reads}
use Rattle.script_steps.specs.Grammar.{step}
use Rattle.script_steps.specs.TextForm.{EncodesWholeStep}
use Rattle.script_steps.proofs.PrefixLaws.{EncodedPrefix, IsEncoded, following, encoded_after, none}
use Rattle.script_steps.proofs.StepLaws.{step_encoded}
use Rattle.edit_script.specs.Grammar.{in_braces, EncodesSteps, HasOperands, braced_step, is_over, with_step, remaining_steps}
use Rattle.edit_script.specs.Grammar.{group, one, one_or_group}
use Rattle.edit_script.proofs.StepsLaws.{group_first, one_first}

-- `{ STEP }`
abbrev IsBraced : Step → List Operand → Type 0
IsBraced s os = (w : List Operand) × (os ≡ in_braces w) × EncodesWholeStep s w

braced_encoded : IsEncoded Step braced_step IsBraced
unfolding braced_step
braced_encoded =
    following (fixed (codes "{")) _ IsBraced (λ o. Fixed (codes "{") ∷ []) (fixed_front (codes "{")) (λ o.
    encoded_after step _ (λ s os. IsBraced s (Fixed (codes "{") ∷ os)) {S = EncodesWholeStep} step_encoded (λ s w h.
    following (fixed (codes "}")) _ (λ x os. IsBraced x (Fixed (codes "{") ∷ (w ++ os))) (λ c. Fixed (codes "}")
    ∷ []) (fixed_front (codes "}")) (λ c.
    none s (λ x more. IsBraced x (Fixed (codes "{") ∷ (w ++ (Fixed (codes "}") ∷ more)))) (w, refl, h))))

-- ---- the remaining steps

record StepsRead (ss : List Step) (line : List TokenValue) (t : Parsed (List Step)) : Type 0 where
  pub steps : List Step
  pub operands : List Operand
  pub encoding : EncodesSteps steps operands
  pub prefix : PrefixEncodes line t.rest operands
  pub has_value : ss ++ steps ≡ t.value

no_more : (ss : List Step) (line : List TokenValue) (t : Parsed (List Step)) → AllHoldBytes line → pure ss line ≡ Ok t
    → StepsRead ss line t
no_more ss line t h e =
    let same : record { value = ss; rest = line } ≡ t = made ss line t e in
    subst (StepsRead ss line) same
    (record {
      steps =
          [];
      operands =
          [];
      encoding = refl;
      prefix = record { encoding = λ more k. k; holds = h };
      has_value = append-nil ss;
    })

more_steps : (ss : List Step) (line : List TokenValue) (x : Parsed Step) (t : Parsed (List Step)) → EncodedPrefix IsBraced line x
    → StepsRead (with_step ss x.value) x.rest t → StepsRead ss line t
more_steps ss line x t b s = record {
  steps = x.value ∷ s.steps;
  operands = b.operands ++ s.operands;
  encoding =
      record {
        operands =
            b.encoding.0;
        more =
            s.operands;
        parts =
            ap (λ (os : List Operand). os ++ s.operands) b.encoding.1;
        encoding = b.encoding.2;
        follow = s.encoding;
      };
  prefix = then b.operands s.operands b.prefix s.prefix;
  has_value = sym (append_assoc ss (x.value ∷ []) s.steps) ∙ s.has_value;
}

left_front : (ss : List Step) (line : List TokenValue) (t : Parsed (List Step)) → AllHoldBytes line
    → remaining_steps ss line ≡ Ok t → StepsRead ss line t
unfolding remaining_steps
left_front ss line t h e =
    repeated_reads is_over pure braced_step with_step StepsRead (λ ss line t h over e. no_more ss line t h e)
    (λ ss line x t h e on. let f = braced_encoded line x h e in more_steps ss line x t f (on f.prefix.holds)) ss line t h e

steps_encoded : IsEncoded (List Step) (remaining_steps []) EncodesSteps
steps_encoded line t h e =
    let s = left_front [] line t h e in
    record {
      operands =
          s.operands;
      encoding = subst (λ (ss : List Step). EncodesSteps ss s.operands) s.has_value s.encoding;
      prefix = s.prefix;
    }

-- ---- an edit

group_encoded : IsEncoded Edit group HasOperands
unfolding group
group_encoded =
    following (fixed (codes "group")) _ HasOperands (λ w. Fixed (codes "group") ∷ []) (fixed_front (codes "group")) (λ w.
    encoded_after (remaining_steps []) _ (λ e os. HasOperands e (Fixed (codes "group") ∷ os)) {S = EncodesSteps} steps_encoded
    (λ ss os h.
    none (Group ss) (λ e more. HasOperands e (Fixed (codes "group") ∷ (os ++ more)))
    (record { braces = os ++ []; parts = refl; encoding = subst (EncodesSteps ss) (sym (append-nil os)) h })))

one_encoded : IsEncoded Edit one HasOperands
unfolding one
one_encoded =
    encoded_after step _ HasOperands {S = EncodesWholeStep} step_encoded
    (λ s os h. none (One s) (λ e more. HasOperands e (os ++ more)) (subst (EncodesWholeStep s) (sym (append-nil os)) h))

pub edit_encoded : IsEncoded Edit one_or_group HasOperands
edit_encoded line t h e = from (is_next (codes "group") line) refl
  where
    from : (b : Bool) → is_next (codes "group") line ≡ b → EncodedPrefix HasOperands line t
    from true k = group_encoded line t h (sym (group_first line k) ∙ e)
    from false k = one_encoded line t h (sym (one_first line k) ∙ e)
