-- The steps of a group, applied in order.
use Rattle.std.proofs.Common.{◌≡◌, ◌<◌, ◌+◌, ℕ, suc, List, [], ◌∷◌, ◌++◌, length, get_or, drop, reverse, None, refl}
use Rattle.std.proofs.Common.{sym, ◌∙◌, ap, append_assoc, drop-cons, arith}
use Rattle.std.proofs.lemmas.List.{reverse-append}
use Rattle.bank_parts.specs.declared.parts.Parts.{Parts}
use Rattle.edit_forms.specs.declared.step.Step.{Step}
use Rattle.edit_forms.specs.Steps.{raw, refusal}
use Rattle.edit_refusals.specs.Sequences.{after_all, undo_list}
use Rattle.edit_refusals.specs.Edits.{first_refused}
use Rattle.edit_forms.specs.Steps.{inverse}
use Rattle.bank_edits.specs.GroupChanges.{IsStepDone}

-- After n steps, applying the remaining steps to the current bank gives the same refusal and the same final bank as
-- applying all steps to the first bank, and the undo list ends with the reversed inverses so far.
pub record SoFar (n : ℕ) (first now : Parts) (steps rest inverses : List Step) : Type 0 where
  pub refused : first_refused 0 first steps ≡ first_refused n now rest
  pub changed : after_all raw first steps ≡ after_all raw now rest
  pub undone : undo_list raw inverse first steps ≡ undo_list raw inverse now rest ++ reverse inverses

accepted_on : (n : ℕ) (b : Parts) (s : Step) (rest : List Step) → refusal b s ≡ None
    → first_refused n b (s ∷ rest) ≡ first_refused (suc n) (raw b s) rest
accepted_on n b s rest h = rw h refl

-- after step `n`
module _ (n : ℕ) (first now changed : Parts) (steps inverses : List Step) (s back : Step) where
  next_done : (rest : List Step) → SoFar n first now steps (s ∷ rest) inverses → IsStepDone now changed s back
      → SoFar (suc n) first changed steps rest (inverses ++ back ∷ [])
  next_done rest so done = rw (done.changed, done.back_is_inverse) (record {
    refused = so.refused ∙ accepted_on n now s rest done.accepted;
    changed = so.changed;
    undone = so.undone
        ∙ append_assoc (undo_list raw inverse (raw now s) rest) (inverse now s ∷ []) (reverse inverses)
        ∙ ap (λ (l : List Step). undo_list raw inverse (raw now s) rest ++ l)
        (sym (reverse-append inverses (inverse now s ∷ [])));
  })

  pub one_more : (all : List Step) → SoFar n first now steps (drop n steps) inverses → n < length steps
      → s ≡ get_or steps n s → IsStepDone now changed s back
      → all ≡ inverses ++ back ∷ [] → SoFar (n + 1) first changed steps (drop (n + 1) steps) all
  one_more all so lt at done pushed =
      let seam : drop n steps ≡ s ∷ drop (suc n) steps =
      drop-cons steps n s lt ∙ ap (λ (x : Step). x ∷ drop (suc n) steps) (sym at) in
      let next : n + 1 ≡ suc n = omega arith in
      rw (next, pushed) (next_done (drop (suc n) steps) (rw seam at so) done)
