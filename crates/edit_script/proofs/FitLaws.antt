-- The edits of a script fit.
use Rattle.std.proofs.Common.{◌≡◌, ℕ, suc, List, [], ◌∷◌, codes, Result, Ok, Err, sym, subst, inl, inr}
use Rattle.std.specs.Result.{IfOk}
use Rattle.std.specs.List.{AllByRecursion}
use Rattle.sf_base.specs.declared.memory.Failure.{Failure}
use Rattle.edit_forms.specs.declared.step.Step.{Step}
use Rattle.edit_forms.specs.declared.edit.Edit.{Edit}
use Rattle.edit_forms.specs.declared.edit.Edit.TheVariants.{One, Group}
use Rattle.edit_forms.specs.Fits.{FitsStep, FitsEdit}
use Rattle.script_tokens.specs.declared.cursor.TokenValue.{TokenValue}
use Rattle.script_tokens.specs.declared.fault.ScriptFault.{ScriptFault}
use Rattle.script_tokens.specs.Lines.{lines_of}
use Rattle.script_tokens.specs.Pool.{Answers}
use Rattle.script_grammar.specs.Operands.{Operand, Fixed}
use Rattle.script_grammar.proofs.FitLaws.{AllRanged, all_ranged, following}
use Rattle.script_steps.specs.TextForm.{EncodesWholeStep}
use Rattle.script_steps.proofs.StepLaws.{step_fits}
use Rattle.edit_script.specs.declared.parsing.Line.{Line}
use Rattle.edit_script.specs.Grammar.{in_braces, EncodesSteps, HasOperands}
use Rattle.edit_script.specs.Script.{script_of}
use Rattle.edit_script.specs.Printing.{LinesFit}
use Rattle.edit_script.specs.TextForm.{EncodesEdit, LinesEncode, Spells}
use Rattle.edit_script.proofs.ReadLaws.{read_spelled}

whole_fits : (s : Step) (os : List Operand) → EncodesWholeStep s os → AllRanged os → FitsStep s
whole_fits s os h r = let k = subst AllRanged h.parts r in step_fits s h.operands h.encoding k.1

steps_fit : (ss : List Step) (os : List Operand) → EncodesSteps ss os → AllRanged os → AllByRecursion FitsStep ss
steps_fit [] os h r = tt
steps_fit (s ∷ ss) os h r =
    let k = following (in_braces h.operands) h.more (subst AllRanged h.parts r) in
    let b = following h.operands (Fixed (codes "}") ∷ []) k.0.1 in
    (whole_fits s h.operands h.encoding b.0, steps_fit ss h.more h.follow k.1)

all_fit : (e : Edit) (os : List Operand) → HasOperands e os → AllRanged os → FitsEdit e
all_fit (One s) os h r = whole_fits s os h r
all_fit (Group ss) os h r = let k = subst AllRanged h.parts r in steps_fit ss h.braces h.encoding k.1

edit_fits : (token_values : List TokenValue) (e : Edit) → EncodesEdit token_values e → FitsEdit e
edit_fits token_values e h = all_fit e h.operands h.encoding (all_ranged token_values h.operands h.tokens)

lines_fit : (n : ℕ) (ls : List (List ℕ)) (edits : List Line) → LinesEncode n ls edits → LinesFit edits
lines_fit n [] edits h = subst LinesFit (sym h) tt
lines_fit n (l ∷ ls) edits (inl h) = lines_fit (suc n) ls edits h.1
lines_fit n (l ∷ ls) edits (inr h) =
    subst LinesFit (sym h.parts) (edit_fits h.token_values h.edit h.form, lines_fit (suc n) ls h.more h.follow)

pub spelled_fit : (text : List ℕ) (edits : List Line) → Spells text edits → LinesFit edits
spelled_fit text edits h = lines_fit 1 (lines_of text) edits h

pub script_fits : (text : List ℕ) (lines : List Line) → script_of text ≡ Ok lines → LinesFit lines
script_fits text lines e = spelled_fit text lines (read_spelled text lines e)

-- the edits that `parse` returns fit
pub parsed_fit : {X : Type 0} (text : List ℕ) (view : X → List Line) (r : Result X (Failure ScriptFault))
    → Answers view r (script_of text) → IfOk r (λ x. LinesFit (view x))
parsed_fit text view (Ok x) h = script_fits text (view x) h
parsed_fit text view (Err failure) h = tt
