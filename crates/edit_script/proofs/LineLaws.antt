-- The printed lines of edits encode those edits.
use Rattle.std.proofs.Common.{◌≡◌, ◌++◌, ℕ, suc, true, List, [], ◌∷◌, map, codes, Ok, refl, sym, ap, subst, inl, inr}
use Rattle.std.proofs.Common.{◌∙◌}
use Rattle.std.specs.List.{flat_map, list_all, AllByRecursion}
use Rattle.edit_forms.specs.declared.step.Step.{Step}
use Rattle.edit_forms.specs.declared.edit.Edit.{Edit}
use Rattle.edit_forms.specs.declared.edit.Edit.TheVariants.{One, Group}
use Rattle.edit_forms.specs.Fits.{FitsStep, FitsEdit}
use Rattle.script_tokens.specs.declared.cursor.TokenValue.TheVariants as encoding
use Rattle.script_tokens.specs.Lines.{lines_of}
use Rattle.script_tokens.specs.Printing.{line_text}
use Rattle.script_tokens.proofs.LexLaws.{lines_none}
use Rattle.script_tokens.specs.declared.printing.Piece.{Piece}
use Rattle.script_tokens.proofs.TestLaws.{not_feed}
use Rattle.script_tokens.proofs.PieceLaws.{piece_value, line, line_has_values, line_first, AllPrintable}
use Rattle.script_grammar.specs.Operands.{Operand, Fixed, pieces_of}
use Rattle.script_grammar.proofs.OperandLaws as operand
use Rattle.script_grammar.proofs.OperandLaws.{IsFixed, all_printable, all_say, both_fit}
use Rattle.script_steps.specs.Grammar.{word_of, operands, step_operands}
use Rattle.script_steps.specs.TextForm.{EncodesWholeStep}
use Rattle.script_steps.proofs.StepLaws.{form_fixed, operands_fit, step_printed}
use Rattle.edit_script.specs.Grammar.{braced, EncodesSteps, HasOperands}
use Rattle.edit_script.specs.declared.parsing.Line.{Line}
use Rattle.edit_script.specs.Script.{script_of}
use Rattle.edit_script.specs.Printing.{text_of, texts_of, numbered, AllFit}
use Rattle.edit_script.specs.TextForm.{LinesEncode, Spells}
use Rattle.edit_script.proofs.CompletenessLaws.{spelled_read}

-- ---- the word of a line, and its operands

abbrev word : Edit → List ℕ
word (One s) = word_of s
word (Group ss) = codes "group"

abbrev following : Edit → List Operand
following (One s) = operands s
following (Group ss) = flat_map braced ss

text_is : (e : Edit) → text_of e ≡ line_text (word e) (pieces_of (following e))
unfolding text_of
text_is (One s) = refl
text_is (Group ss) = refl

word_fixed : (e : Edit) → IsFixed (word e)
word_fixed (One s) = form_fixed s
word_fixed (Group ss) = (refl, refl)

-- ---- an edit that fits can be encoded

braced_fit : (s : Step) → FitsStep s → operand.AllFit (braced s)
braced_fit s h = (
  (refl, refl),
  both_fit (step_operands s) (Fixed (codes "}") ∷ []) (form_fixed s, operands_fit s h) ((refl, refl), tt),
)

all_braced_fit : (ss : List Step) → AllByRecursion FitsStep ss → operand.AllFit (flat_map braced ss)
all_braced_fit [] h = tt
all_braced_fit (s ∷ ss) h = both_fit (braced s) (flat_map braced ss) (braced_fit s h.0) (all_braced_fit ss h.1)

following_fit : (e : Edit) → FitsEdit e → operand.AllFit (following e)
following_fit (One s) h = operands_fit s h
following_fit (Group ss) h = all_braced_fit ss h

-- ---- the printed line encodes the edit

whole_printed : (s : Step) → EncodesWholeStep s (step_operands s)
whole_printed s = record { operands = operands s; parts = refl; encoding = step_printed s }

steps_printed : (ss : List Step) → EncodesSteps ss (flat_map braced ss)
steps_printed [] = refl
steps_printed (s ∷ ss) =
    record {
      operands =
          step_operands s;
      more =
          flat_map braced ss;
      parts = refl;
      encoding = whole_printed s;
      follow = steps_printed ss;
    }

edit_printed : (e : Edit) → HasOperands e (Fixed (word e) ∷ following e)
edit_printed (One s) = whole_printed s
edit_printed (Group ss) = record { braces = flat_map braced ss; parts = refl; encoding = steps_printed ss }

-- ---- lines

edit_lines : (e : Edit) (rest : List ℕ) → FitsEdit e
    → lines_of (text_of e ++ rest) ≡ line (word e) (pieces_of (following e)) ∷ lines_of rest
edit_lines e rest h =
    ap (λ (t : List ℕ). lines_of (t ++ rest)) (text_is e)
    ∙ line_first (word e) (pieces_of (following e)) rest (word_fixed e).1 (all_printable (following e) (following_fit e h))

texts_say : (n : ℕ) (es : List Edit) → AllFit es → LinesEncode n (lines_of (texts_of es)) (numbered n es)
texts_say n [] h = subst (λ (ls : List (List ℕ)). LinesEncode n ls []) (sym lines_none) refl
texts_say n (e ∷ es) h =
    let fit = following_fit e h.0 in
    subst (λ (ls : List (List ℕ)). LinesEncode n ls (numbered n (e ∷ es))) (sym (edit_lines e (texts_of es) h.0))
    (inr (record {
      token_values = encoding.Word (word e) ∷ map piece_value (pieces_of (following e));
      edit = e;
      more = numbered (suc n) es;
      parts = refl;
      tokens = line_has_values (word e) (pieces_of (following e)) (word_fixed e).0 (all_printable (following e) fit);
      form =
          record
          { operands = Fixed (word e) ∷ following e; encoding = edit_printed e; tokens = (refl, all_say (following e) fit) };
      follow = texts_say (suc n) es h.1;
    }))

pub printed : (es : List Edit) → AllFit es → Spells (texts_of es) (numbered 1 es)
printed es h = texts_say 1 es h

pub printed_is_read : (es : List Edit) → AllFit es → script_of (texts_of es) ≡ Ok (numbered 1 es)
printed_is_read es h = spelled_read (texts_of es) (numbered 1 es) (printed es h)

-- ---- after a comment, and without line numbers

-- after a comment line the edits are on line 2 and the next lines
pub printed_after_comment : (comment : List ℕ) (ps : List Piece) (es : List Edit) → list_all not_feed (35 ∷ comment) ≡ true
    → AllPrintable ps → AllFit es
    → script_of (line_text (35 ∷ comment) ps ++ texts_of es) ≡ Ok (numbered 2 es)
printed_after_comment comment ps es f s h =
    let first = line (35 ∷ comment) ps in
    spelled_read (line_text (35 ∷ comment) ps ++ texts_of es) (numbered 2 es)
    (subst (λ (ls : List (List ℕ)). LinesEncode 1 ls (numbered 2 es))
    (sym (line_first (35 ∷ comment) ps (texts_of es) f s))
    (inl (record { blanks = []; rest = first; parts = refl; blank = refl; silent = refl }, texts_say 2 es h)))

pub edits_numbered : (n : ℕ) (es : List Edit) → map (λ (l : Line). l.edit) (numbered n es) ≡ es
edits_numbered n [] = refl
edits_numbered n (e ∷ es) = ap (λ (l : List Edit). e ∷ l) (edits_numbered (suc n) es)
