-- The line that is printed for an edit.
use Rattle.std.specs.Prelude.{ℕ, suc, List, [], ◌∷◌, codes}
use Rattle.std.specs.List.{flat_map, AllByRecursion}
use Rattle.edit_forms.specs.declared.edit.Edit.{Edit}
use Rattle.edit_forms.specs.declared.edit.Edit.TheVariants.{One, Group}
use Rattle.edit_forms.specs.Fits.{FitsEdit}
use Rattle.script_tokens.specs.Printing.{line_text}
use Rattle.edit_script.specs.declared.parsing.Line.{Line}
use Rattle.script_grammar.specs.Operands.{pieces_of}
use Rattle.script_steps.specs.Grammar.{word_of, operands}
use Rattle.edit_script.specs.Grammar.{braced}

-- the line of an edit, with its line feed
unfoldable pub text_of : Edit → List ℕ
text_of (One step) = line_text (word_of step) (pieces_of (operands step))
text_of (Group steps) = line_text (codes "group") (pieces_of (flat_map braced steps))

-- ---- several lines

-- the lines of edits, one after another
abbrev pub texts_of : List Edit → List ℕ
texts_of es = flat_map text_of es

-- edits on consecutive lines, of which the first has the number n
abbrev pub numbered : ℕ → List Edit → List Line
numbered n [] = []
numbered n (e ∷ es) = record { number = n; edit = e } ∷ numbered (suc n) es

-- ---- edits that a script can encode

-- the values of all edits are in the ranges of their types
abbrev pub AllFit : List Edit → Type 0
AllFit es = AllByRecursion FitsEdit es

-- the same of the edits of a script
abbrev pub LinesFit : List Line → Type 0
LinesFit ls = AllByRecursion (λ (l : Line). FitsEdit l.edit) ls
