-- The grammar of scripts, as a relation of texts and edits that no reader defines.
use Rattle.std.specs.Prelude.{◌≡◌, ◌⊎◌, ℕ, suc, List, [], ◌∷◌}
use Rattle.edit_forms.specs.declared.edit.Edit.{Edit}
use Rattle.script_tokens.specs.declared.cursor.TokenValue.{TokenValue}
use Rattle.script_tokens.specs.Lines.{lines_of}
use Rattle.script_tokens.specs.TextForm.{HasNoTokens, LineHasValues}
use Rattle.edit_script.specs.declared.parsing.Line.{Line}
use Rattle.script_grammar.specs.Operands.{Operand, AllEncode}
use Rattle.edit_script.specs.Grammar.{HasOperands}

-- operands that encode the edit, token by token
pub record EncodesEdit (token_values : List TokenValue) (edit : Edit) : Type 0 where
  pub operands : List Operand
  pub encoding : HasOperands edit operands
  pub tokens : AllEncode token_values operands

-- line n encodes the first edit, and what follows encodes the other edits
pub record EncodesFirst (n : ℕ) (line : List ℕ) (edits : List Line) (Follow : List Line → Type 0) : Type 0 where
  pub token_values : List TokenValue
  pub edit : Edit
  pub more : List Line
  pub parts : edits ≡ record { number = n; edit = edit } ∷ more
  pub tokens : LineHasValues line token_values
  pub form : EncodesEdit token_values edit
  pub follow : Follow more

-- the lines, of which the first has the number n, encode these edits
abbrev pub LinesEncode : ℕ → List (List ℕ) → List Line → Type 0
LinesEncode n [] edits = edits ≡ []
LinesEncode n (l ∷ ls) edits =
    (HasNoTokens l × LinesEncode (suc n) ls edits) ⊎ EncodesFirst n l edits (λ more. LinesEncode (suc n) ls more)

-- The text encodes these edits on these lines, and nothing else.
abbrev pub Spells : List ℕ → List Line → Type 0
Spells text edits = LinesEncode 1 (lines_of text) edits
