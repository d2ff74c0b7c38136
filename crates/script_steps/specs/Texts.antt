-- The form that edits a bank's texts: the parser of its operands, and the operands that are printed.
use Rattle.std.specs.Prelude.{ℕ, List, [], ◌∷◌, codes}
use Rattle.edit_forms.specs.declared.step.Step.{Step}
use Rattle.edit_forms.specs.declared.step.Step.TheVariants as steps
use Rattle.edit_forms.specs.declared.texts.TextStep.{TextStep}
use Rattle.edit_forms.specs.declared.texts.TextStep.TheVariants.{SetInfo}
use Rattle.script_tokens.specs.Parsers.{Parser, ◌>>=◌, pure, literal}
use Rattle.script_grammar.specs.Operands.{Operand, Fixed, Text}
use Rattle.script_grammar.specs.Texts.{id_word, info_id}
use Rattle.script_steps.specs.Forms.{Form}

-- `ID TEXT`
unfoldable pub set_info : Parser Step
set_info = do
  id ← info_id
  text ← literal
  pure (steps.Text (SetInfo id text))

-- the form
unfoldable pub forms : List Form
forms = (codes "set-info", set_info) ∷ []

-- the word of a step's form, and the operands that are printed after it
abbrev pub printed : TextStep → List ℕ × List Operand
printed (SetInfo id text) = (codes "set-info", Fixed (id_word id) ∷ Text text ∷ [])
