-- A form in one of several lists of forms is the first that has the word.
use Rattle.std.proofs.Common.{◌≡◌, ◌++◌, ℕ, Bool, true, false, cond, List, [], ◌∷◌, Option, Some, None, Result}
use Rattle.std.proofs.Common.{refl, sym, is_some, ◌∙◌}
use Rattle.std.specs.Str.{bytes_eq}
use Rattle.sf_base.specs.declared.memory.Failure.{Failure}
use Rattle.edit_forms.specs.declared.step.Step.{Step}
use Rattle.script_tokens.specs.declared.fault.LineFault.{LineFault}
use Rattle.script_tokens.specs.TokenValue as cursors
use Rattle.script_steps.specs.Forms.{Form, form_word, form_in, ReadsForm}

-- a form in the first of two lists is found in both; else the second is searched
found_in_first : (xs ys : List Form) (w : List ℕ) (f : Form) → form_in xs w ≡ Some f → form_in (xs ++ ys) w ≡ Some f
found_in_first [] ys w f e = cc
found_in_first (x ∷ xs) ys w f e = from (bytes_eq w (form_word x)) (found_in_first xs ys w f) e
  where
    from : (b : Bool) → (form_in xs w ≡ Some f → form_in (xs ++ ys) w ≡ Some f)
        → cond {A = Option Form} b (Some x) (form_in xs w) ≡ Some f
        → cond {A = Option Form} b (Some x) (form_in (xs ++ ys) w) ≡ Some f
    from true on e = e
    from false on e = on e

pub in_second : (xs ys : List Form) (w : List ℕ) → form_in xs w ≡ None → form_in (xs ++ ys) w ≡ form_in ys w
in_second [] ys w e = refl
in_second (x ∷ xs) ys w e = from (bytes_eq w (form_word x)) (in_second xs ys w) e
  where
    from : (b : Bool) → (form_in xs w ≡ None → form_in (xs ++ ys) w ≡ form_in ys w)
        → cond {A = Option Form} b (Some x) (form_in xs w) ≡ None
        → cond {A = Option Form} b (Some x) (form_in (xs ++ ys) w) ≡ form_in ys w
    from true on e = cc
    from false on e = on e

pub in_first : (xs ys : List Form) (w : List ℕ) → is_some (form_in xs w) ≡ true → form_in (xs ++ ys) w ≡ form_in xs w
in_first xs ys w e = from (form_in xs w) refl e
  where
    from : (o : Option Form) → form_in xs w ≡ o → is_some o ≡ true → form_in (xs ++ ys) w ≡ form_in xs w
    from None k e = cc
    from (Some f) k e = found_in_first xs ys w f k ∙ sym k

module _ (form : Option Form) (old new : cursors.CursorState) where
  -- a result is the result of a form that is found
  pub found : (read : Result Step (Failure LineFault)) → ReadsForm form old new (Some read) → is_some form ≡ true
  unfolding ReadsForm
  found read h = h.0

  pub passed_form : ReadsForm form old new None → form ≡ None
  unfolding ReadsForm
  passed_form h = h.0

  pub passed_line : ReadsForm form old new None → new ≡ old
  unfolding ReadsForm
  passed_line h = h.1

-- the result of searching one list and then another is that of searching both
pub ruleset sought = (in_first, in_second, found, passed_form, passed_line)
