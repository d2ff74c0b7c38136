-- The laws of a step, from the row of its form.
use Rattle.std.proofs.Common.{◌≡◌, ◌≤◌, ◌∙◌, ap, Bool, true, false, List, [], ◌∷◌, ◌++◌, length, codes, Option, Some}
use Rattle.std.proofs.Common.{None, Ok, cond, refl, sym, subst, arith, ℕ}
use Rattle.std.specs.List.{list_all}
use Rattle.std.specs.Str.{bytes_eq}
use Rattle.std.proofs.lemmas.Bool.{and_parts}
use Rattle.std.proofs.lemmas.Slice.Eq.{bytes_eq-Decides}
use Rattle.edit_forms.specs.declared.step.Step.{Step}
use Rattle.edit_forms.specs.Fits.{FitsStep}
use Rattle.script_tokens.specs.declared.cursor.TokenValue.{TokenValue}
use Rattle.script_tokens.specs.declared.fault.LineFault.TheVariants as faults
use Rattle.script_tokens.specs.Parsers.{Parsed, ◌>>=◌, pure, or_fault, word}
use Rattle.script_tokens.specs.TextForm.{is_word}
use Rattle.script_tokens.proofs.TestLaws.{not_feed}
use Rattle.script_tokens.proofs.ReadLaws.{both, or_fault_is}
use Rattle.script_grammar.specs.Operands.{Operand, Fixed, AllEncode}
use Rattle.script_grammar.specs.Names.{named, next_named}
use Rattle.script_grammar.proofs.CompletenessLaws.{Gives, then, gives_pure, gives_named}
use Rattle.script_grammar.proofs.ZoneCompletenessLaws.{EndsZones, as_other}
use Rattle.script_grammar.proofs.ReadLaws as read
use Rattle.script_grammar.proofs.ReadLaws.{made, next_named_front}
use Rattle.script_grammar.proofs.RepeatedLaws.{Keeps, pure_keeps, then_keeps}
use Rattle.script_grammar.proofs.KeepLaws.{named_keeps}
use Rattle.script_grammar.proofs.FitLaws.{AllRanged}
use Rattle.script_grammar.proofs.OperandLaws.{IsFixed, AllFit}
use Rattle.script_steps.specs.Presets as presets
use Rattle.script_steps.specs.Instruments as instruments
use Rattle.script_steps.specs.Samples as samples
use Rattle.script_steps.specs.Points as points
use Rattle.script_steps.specs.Zones as zones
use Rattle.script_steps.specs.Settings as settings
use Rattle.script_steps.specs.Texts as texts
use Rattle.script_steps.specs.Forms.{Form, form_word, form_in}
use Rattle.script_steps.specs.Grammar.{forms, word_of, operands, EncodesStep, a_form, step}
use Rattle.script_steps.specs.TextForm.{EncodesWholeStep}
use Rattle.script_steps.proofs.PrefixLaws.{EncodedPrefix, IsEncoded}
use Rattle.script_steps.proofs.Rows.{Row, RowOf, ValueOf, rows, at, values}

-- ---- the form of a step

-- the form that has the step's word, its row, and the values from which the row makes the step
record OfStep (s : Step) : Type 1 where
  form : Form
  found : form_in forms (word_of s) ≡ Some form
  row : Row form
  value : row.Value
  makes : row.make value ≡ s

of_step : (s : Step) → OfStep s
of_step s = from (form_in forms (word_of s)) (at forms rows.rows (word_of s)) refl (values s)
  where
    from : (o : Option Form) (r : RowOf o) → form_in forms (word_of s) ≡ o → ValueOf o r s → OfStep s
    from None r e v = absurd v
    from (Some f) r e v = record { form = f; found = e; row = r; value = v.0; makes = v.1 }

has_word : (s : Step) → form_word (of_step s).form ≡ word_of s
has_word s = let o = of_step s in sym (o.row.is o.value).0 ∙ ap word_of o.makes

-- a test that all pass is passed by the one that is named
all_named : {X : Type 0} (test : X → Bool) (word_of : X → List ℕ) (xs : List X) (w : List ℕ) (x : X)
    → list_all test xs ≡ true → named word_of xs w ≡ Some x → test x ≡ true
all_named test word_of [] w x h e = cc
all_named {X} test word_of (y ∷ ys) w x h e =
    let k = and_parts (test y) (list_all test ys) h in
    from k.0 (all_named test word_of ys w x k.1) (bytes_eq w (word_of y)) e
  where
    from : test y ≡ true → (named word_of ys w ≡ Some x → test x ≡ true) → (b : Bool)
        → cond {A = Option X} b (Some y) (named word_of ys w) ≡ Some x → test x ≡ true
    from k on true e = let same : y ≡ x = cc in subst (λ (z : X). test z ≡ true) same k
    from k on false e = on e

-- each is a word that can be on a line
pub form_fixed : (s : Step) → IsFixed (word_of s)
unfolding presets.forms instruments.forms samples.forms points.forms zones.forms settings.forms texts.forms
form_fixed s =
    let o = of_step s in
    subst IsFixed (has_word s) (
      all_named (λ f. is_word (form_word f)) form_word forms (word_of s) o.form refl o.found,
      all_named (λ f. list_all not_feed (form_word f)) form_word forms (word_of s) o.form refl o.found,
    )

-- no step begins with the word of a group
pub not_group : (s : Step) → bytes_eq (word_of s) (codes "group") ≡ false
unfolding presets.forms instruments.forms samples.forms points.forms zones.forms settings.forms texts.forms
not_group s = from (bytes_eq (word_of s) (codes "group")) refl
  where
    from : (b : Bool) → bytes_eq (word_of s) (codes "group") ≡ b → b ≡ false
    from true e =
        let o = of_step s in
        let none : form_in forms (codes "group") ≡ Some o.form =
        subst (λ (w : List ℕ). form_in forms w ≡ Some o.form)
        ((bytes_eq-Decides (word_of s) (codes "group")).0 e) o.found in
        cc
    from false e = refl

-- ---- the operands after the word

-- a step of the form, and operands that encode it
abbrev StepOf : Form → Step → List Operand → Type 0
StepOf f s os = EncodesStep s os × (word_of s ≡ form_word f)

-- operands that encode a step of a form are read as the step, fit where the step does, and include those that
-- are printed
record IsStepLawful (f : Form) (s : Step) : Type 0 where
  gives : (os more : List Operand) → EndsZones more → EncodesStep s os → (line : List TokenValue) → AllEncode line (os ++ more)
      → Gives f.1 s line more
  fits : (os : List Operand) → EncodesStep s os → AllRanged os → FitsStep s
  fit : FitsStep s → AllFit (operands s)
  printed : EncodesStep s (operands s)

module _ {f : Form} (r : Row f) where
  operands_encoded : IsEncoded Step f.1 (StepOf f)
  operands_encoded line t g e =
      let u = both (r.part line) (λ x. pure (r.make x)) t (sym (r.reads line) ∙ e) in
      let k = r.lawful.encoded line u.first g u.is in
      let is = r.is u.first.value in
      subst (EncodedPrefix (StepOf f) line) (made (r.make u.first.value) u.first.rest t u.second)
      (record {
        operands =
            k.operands;
        encoding =
            (subst (λ (Encodes : List Operand → Type 0). Encodes k.operands) (sym is.1) k.encoding, is.0);
        prefix =
            k.prefix;
      })

  operands_keep : Keeps f.1
  operands_keep line t e =
      then_keeps r.part _ r.lawful.keeps (λ x. pure_keeps (r.make x)) line t (sym (r.reads line) ∙ e)

  operands_lawful : (x : r.Value) → IsStepLawful f (r.make x)
  operands_lawful x =
      let is = r.is x in record {
        gives = λ os more end h line k.
            as_other (r.part >>= λ x. pure (r.make x)) f.1 (r.make x) line more (r.reads line)
            (then _ (r.lawful.gives x os more end (subst (λ (Encodes : List Operand → Type 0). Encodes os) is.1 h) line k)
            (λ rest k. gives_pure (r.make x) rest more k));
        fits = λ os h k. is.3 (r.lawful.fits x os (subst (λ (Encodes : List Operand → Type 0). Encodes os) is.1 h) k);
        fit = λ h. subst AllFit (sym is.2) (r.lawful.fit x (is.4 h));
        printed =
            subst (λ (Encodes : List Operand → Type 0). Encodes (operands (r.make x))) (sym is.1)
            (subst (r.Encodes x) (sym is.2) (r.lawful.printed_encodes x));
      }

step_lawful : (s : Step) → IsStepLawful (of_step s).form s
step_lawful s =
    let o = of_step s in subst (IsStepLawful o.form) o.makes (operands_lawful o.row o.value)

-- ---- a step

-- a form that is read has its row
read_row : (line : List TokenValue) (t : Parsed Form) → a_form line ≡ Ok t → Row t.value
unfolding next_named
read_row line t e =
    let w = both (word line) (λ w. or_fault faults.Syntax (form_in forms w)) t e in
    let found = or_fault_is faults.Syntax (form_in forms w.first.value) w.first.rest t w.second in
    subst RowOf found.0 (at forms rows.rows w.first.value)

-- a step that is read has its operands on the line
pub step_encoded : IsEncoded Step step EncodesWholeStep
unfolding step
step_encoded line t g e =
    let u = both (a_form line) (λ f. f.1) t e in
    let f = u.first.value in
    let front = next_named_front form_word forms line u.first g u.is in
    let k = operands_encoded (read_row line u.first u.is) u.first.rest t front.holds u.second in
    record {
      operands =
          Fixed (form_word f) ∷ k.operands;
      encoding =
          record {
            operands =
                k.operands;
            parts = ap (λ (w : List ℕ). Fixed w ∷ k.operands) (sym k.encoding.1);
            encoding = k.encoding.0;
          };
      prefix = read.then (Fixed (form_word f) ∷ []) k.operands front k.prefix;
    }

-- operands that encode a step are read as it
pub gives_step : (s : Step) (os more : List Operand) → EndsZones more → EncodesWholeStep s os → (line : List TokenValue)
    → AllEncode line (os ++ more) → Gives step s line more
unfolding step
gives_step s os more end h line k =
    let o = of_step s in
    let word = has_word s in
    let found : form_in forms (form_word o.form) ≡ Some o.form =
    subst (λ (w : List ℕ). form_in forms w ≡ Some o.form) (sym word) o.found in
    then _
    (gives_named form_word forms o.form found line (h.operands ++ more)
    (subst (λ (w : List ℕ). AllEncode line (Fixed w ∷ h.operands ++ more)) (sym word)
    (subst (λ (os : List Operand). AllEncode line (os ++ more)) h.parts k)))
    (λ rest k. (step_lawful s).gives h.operands more end h.encoding rest k)

-- it leaves no more tokens than there were
pub step_keeps : Keeps step
unfolding step
step_keeps line t e =
    let u = both (a_form line) (λ f. f.1) t e in
    let following : length t.rest ≤ length u.first.rest =
    operands_keep (read_row line u.first u.is) u.first.rest t u.second in
    let front : length u.first.rest ≤ length line = named_keeps form_word forms line u.first u.is in
    omega (arith, following, front)

-- a step on a line fits
pub step_fits : (s : Step) (os : List Operand) → EncodesStep s os → AllRanged os → FitsStep s
step_fits s os h k = (step_lawful s).fits os h k

-- a step that fits can be encoded, as it is printed
pub operands_fit : (s : Step) → FitsStep s → AllFit (operands s)
operands_fit s h = (step_lawful s).fit h

pub step_printed : (s : Step) → EncodesStep s (operands s)
step_printed s = (step_lawful s).printed
