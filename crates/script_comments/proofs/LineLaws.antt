-- Lines with comments encode the edits of the lines without.
use Rattle.std.proofs.Common.{◌≡◌, ◌≤◌, ◌<◌, ◌++◌, ◌-◌, ◌+◌, ℕ, suc, true, List, [], ◌∷◌, length, take, drop, map, get_or, codes, refl, sym, ap}
use Rattle.std.proofs.Common.{subst, ◌∙◌, inl, inr, arith, append_assoc, length-append, drop-cons, Option, Ok}
use Rattle.std.specs.List.{flat_map, list_all, AllByRecursion}
use Rattle.std.proofs.Math.Seq.{take-append_seam}
use Rattle.std.proofs.lemmas.Bool.{and_from}
use Rattle.std.proofs.lemmas.List.{append-nil, drop_all}
use Rattle.std.proofs.lemmas.List.Folds.{list_all-append}
use Rattle.base_outputs.specs.declared.output.Output.{Output}
use Rattle.base_outputs.specs.Output.{Puts}
use Rattle.base_outputs.proofs.OutputLaws.{puts_then, puts_as}
use Rattle.edit_forms.specs.declared.step.Step.{Step}
use Rattle.edit_forms.specs.declared.edit.Edit.{Edit}
use Rattle.edit_forms.specs.declared.edit.Edit.TheVariants.{One, Group}
use Rattle.edit_forms.specs.Fits.{FitsStep, FitsEdit}
use Rattle.script_tokens.specs.declared.cursor.TokenValue.{TokenValue}
use Rattle.script_tokens.specs.declared.printing.Piece.{Piece}
use Rattle.script_tokens.specs.Lines.{lines_of}
use Rattle.script_tokens.specs.Printing.{spaced, line_text}
use Rattle.script_tokens.specs.TextForm.{LineHasValues}
use Rattle.script_tokens.proofs.LexLaws.{lines_none}
use Rattle.script_tokens.proofs.TestLaws.{not_feed}
use Rattle.script_tokens.proofs.PieceLaws.{AllPrintable, line, line_first}
use Rattle.script_tokens.proofs.PrintLaws.{line_spaced}
use Rattle.script_grammar.specs.Operands.{Operand, Fixed, pieces_of}
use Rattle.script_grammar.proofs.OperandLaws as operand
use Rattle.script_grammar.proofs.OperandLaws.{IsFixed, all_printable, both_fit}
use Rattle.script_steps.specs.Grammar.{word_of, operands, step_operands}
use Rattle.script_steps.proofs.StepLaws.{form_fixed, operands_fit}
use Rattle.edit_script.specs.Grammar.{braced}
use Rattle.edit_script.specs.declared.parsing.Line.{Line}
use Rattle.edit_script.specs.Script.{script_of}
use Rattle.edit_script.specs.Printing.{text_of, texts_of, numbered, AllFit}
use Rattle.edit_script.specs.TextForm.{LinesEncode, EncodesEdit}
use Rattle.edit_script.proofs.CompletenessLaws.{spelled_read}
use Rattle.edit_script.proofs.LineLaws.{printed, printed_is_read}
use Rattle.script_comments.specs.Lines.{before_feed, commented_line, commented, first_comment, commented_in_turn, IsComment}
use Rattle.script_comments.specs.Lines.{CommentsAreSkipped, EachCommentIsSkipped, CommentedIsReadAlike}
use Rattle.script_comments.specs.Lines.{EmptyCommentsAreNone}
use Rattle.script_comments.proofs.SkipLaws.{has_values_on, spaced_feed, fed}

-- ---- a line without its line feed

before_of : (line : List ℕ) → before_feed (line ++ 10 ∷ []) ≡ line
before_of line =
    let size : length (line ++ 10 ∷ []) - 1 ≡ length line = (let l = length-append line (10 ∷ []) in omega (arith, l)) in
    ap (λ (n : ℕ). take n (line ++ 10 ∷ [])) size ∙ take-append_seam line (10 ∷ [])

pub before_line : (word : List ℕ) (ps : List Piece) → before_feed (line_text word ps) ≡ line word ps
before_line word ps = ap before_feed (line_spaced word ps) ∙ before_of (line word ps)

abbrev word : Edit → List ℕ
word (One s) = word_of s
word (Group ss) = codes "group"

abbrev following : Edit → List Operand
following (One s) = operands s
following (Group ss) = flat_map braced ss

text_is : (e : Edit) → text_of e ≡ line_text (word e) (pieces_of (following e))
unfolding text_of
text_is (One s) = refl
text_is (Group ss) = refl

pub before_edit : (e : Edit) → before_feed (text_of e) ≡ line (word e) (pieces_of (following e))
before_edit e = ap before_feed (text_is e) ∙ before_line (word e) (pieces_of (following e))

pub text_ends : (e : Edit) → before_feed (text_of e) ++ 10 ∷ [] ≡ text_of e
text_ends e =
    ap (λ (t : List ℕ). t ++ 10 ∷ []) (before_edit e)
    ∙ sym (text_is e ∙ line_spaced (word e) (pieces_of (following e)))

pub empty_comments : EmptyCommentsAreNone
empty_comments [] = refl
empty_comments (e ∷ es) = (λ i. text_ends e i ++ empty_comments es i)

-- ---- an edit that fits has one line

word_fixed : (e : Edit) → IsFixed (word e)
word_fixed (One s) = form_fixed s
word_fixed (Group ss) = (refl, refl)

braced_fit : (s : Step) → FitsStep s → operand.AllFit (braced s)
braced_fit s h = (
  (refl, refl),
  both_fit (step_operands s) (Fixed (codes "}") ∷ []) (form_fixed s, operands_fit s h) ((refl, refl), tt),
)

all_braced_fit : (ss : List Step) → AllByRecursion FitsStep ss → operand.AllFit (flat_map braced ss)
all_braced_fit [] h = tt
all_braced_fit (s ∷ ss) h = both_fit (braced s) (flat_map braced ss) (braced_fit s h.0) (all_braced_fit ss h.1)

following_fit : (e : Edit) → FitsEdit e → operand.AllFit (following e)
following_fit (One s) h = operands_fit s h
following_fit (Group ss) h = all_braced_fit ss h

one_line : (e : Edit) → FitsEdit e → list_all not_feed (before_feed (text_of e)) ≡ true
one_line e h =
    ap (list_all not_feed) (before_edit e)
    ∙ list_all-append not_feed (word e) (flat_map spaced (pieces_of (following e)))
    ∙ and_from _ _ (word_fixed e).1
    (spaced_feed (pieces_of (following e)) (all_printable (following e) (following_fit e h)))

-- ---- the edit of a line

-- the tokens of a line encode an edit
record Encoded (e : Edit) (line : List ℕ) : Type 0 where
  pub token_values : List TokenValue
  pub tokens : LineHasValues line token_values
  pub form : EncodesEdit token_values e

first_edit : Edit → List Line → Edit
first_edit e [] = e
first_edit e (l ∷ ls) = l.edit

from_lines : (e : Edit) (line : List ℕ) → LinesEncode 1 (line ∷ []) (record { number = 1; edit = e } ∷ [])
    → Encoded e line
unfolding first_edit
from_lines e line (inl none) = absurd (let no = none.1 in cc no)
from_lines e line (inr f) =
    let same : f.edit ≡ e = sym (ap (first_edit e) f.parts) in
    record { token_values = f.token_values; tokens = f.tokens; form = subst (λ (x : Edit). EncodesEdit f.token_values x) same f.form }

alone : (e : Edit) → FitsEdit e → lines_of (texts_of (e ∷ [])) ≡ before_feed (text_of e) ∷ []
alone e h =
    ap lines_of (append-nil (text_of e) ∙ sym (text_ends e))
    ∙ fed (before_feed (text_of e)) [] (one_line e h)
    ∙ ap (λ (ls : List (List ℕ)). before_feed (text_of e) ∷ ls) lines_none

encoded : (e : Edit) → FitsEdit e → Encoded e (before_feed (text_of e))
encoded e h =
    from_lines e (before_feed (text_of e))
    (subst (λ (ls : List (List ℕ)). LinesEncode 1 ls (numbered 1 (e ∷ []))) (alone e h) (printed (e ∷ []) (h, tt)))

-- ---- lines with comments

nothing : IsComment []
nothing = record {
  silent = record { blanks = []; rest = []; parts = refl; blank = refl; silent = refl };
  apart = refl;
  one_line = refl;
}

first_is : (cs : List (List ℕ)) → AllByRecursion IsComment cs → IsComment (first_comment cs)
first_is [] h = nothing
first_is (c ∷ cs) h = h.0

rest_are : (cs : List (List ℕ)) → AllByRecursion IsComment cs → AllByRecursion IsComment (drop 1 cs)
rest_are [] h = tt
rest_are (c ∷ cs) h = h.1

first_line : (e : Edit) (c rest : List ℕ) → FitsEdit e → IsComment c
    → lines_of (commented_line e c ++ rest) ≡ (before_feed (text_of e) ++ c) ∷ lines_of rest
first_line e c rest h k =
    ap lines_of
    (append_assoc (before_feed (text_of e)) (c ++ 10 ∷ []) rest
    ∙ ap (λ (t : List ℕ). before_feed (text_of e) ++ t) (append_assoc c (10 ∷ []) rest)
    ∙ sym (append_assoc (before_feed (text_of e)) c (10 ∷ rest)))
    ∙ fed (before_feed (text_of e) ++ c) rest
    (list_all-append not_feed (before_feed (text_of e)) c ∙ and_from _ _ (one_line e h) k.one_line)

pub lines_encode : (n : ℕ) (es : List Edit) (cs : List (List ℕ)) → AllFit es → AllByRecursion IsComment cs
    → LinesEncode n (lines_of (commented_in_turn es cs)) (numbered n es)
lines_encode n [] cs h k = subst (λ (ls : List (List ℕ)). LinesEncode n ls []) (sym lines_none) refl
lines_encode n (e ∷ es) cs h k =
    let c = first_comment cs in
    let own = encoded e h.0 in
    subst (λ (ls : List (List ℕ)). LinesEncode n ls (numbered n (e ∷ es)))
    (sym (first_line e c (commented_in_turn es (drop 1 cs)) h.0 (first_is cs k)))
    (inr (record {
      token_values = own.token_values;
      edit = e;
      more = numbered (suc n) es;
      parts = refl;
      tokens = has_values_on (before_feed (text_of e)) c own.token_values own.tokens (first_is cs k);
      form = own.form;
      follow = lines_encode (suc n) es (drop 1 cs) h.1 (rest_are cs k);
    }))

-- the next line
pub turn_at : (es : List Edit) (i : ℕ) (e : Edit) (cs : List (List ℕ)) → i < length es → e ≡ get_or es i e
    → commented_in_turn (drop i es) cs
    ≡ commented_line e (first_comment cs) ++ commented_in_turn (drop (i + 1) es) (drop 1 cs)
turn_at es i e cs lt is =
    ap (λ (rest : List Edit). commented_in_turn rest cs)
    (drop-cons es i e lt ∙ ap (λ (x : Edit). x ∷ drop (suc i) es) (sym is))
    ∙ (let a : i + 1 ≡ suc i = omega arith in rw a refl)

pub turns_over : (es : List Edit) (i : ℕ) (cs : List (List ℕ)) → length es ≤ i → commented_in_turn (drop i es) cs ≡ []
turns_over es i cs over = ap (λ (rest : List Edit). commented_in_turn rest cs) (drop_all i es over)

pub skipped : CommentsAreSkipped
skipped es cs h k = lines_encode 1 es cs h k

pub in_turn : (comment : Edit → List ℕ) (es : List Edit) → commented_in_turn es (map comment es) ≡ commented comment es
in_turn comment [] = refl
in_turn comment (e ∷ es) = ap (λ (t : List ℕ). commented_line e (comment e) ++ t) (in_turn comment es)

pub all_comments : (comment : Edit → List ℕ) (es : List Edit) → ((e : Edit) → IsComment (comment e))
    → AllByRecursion IsComment (map comment es)
all_comments comment [] h = tt
all_comments comment (e ∷ es) h = (h e, all_comments comment es h)

pub each_encode : (n : ℕ) (comment : Edit → List ℕ) (es : List Edit) → AllFit es → ((e : Edit) → IsComment (comment e))
    → LinesEncode n (lines_of (commented comment es)) (numbered n es)
each_encode n comment es h k =
    subst (λ (t : List ℕ). LinesEncode n (lines_of t) (numbered n es)) (in_turn comment es)
    (lines_encode n es (map comment es) h (all_comments comment es k))

pub each_skipped : EachCommentIsSkipped
each_skipped comment es h k = each_encode 1 comment es h k

pub read_alike : CommentedIsReadAlike
read_alike es cs h k =
    spelled_read (commented_in_turn es cs) (numbered 1 es) (skipped es cs h k) ∙ sym (printed_is_read es h)

-- after a comment line the edits are on line 2 and the next lines
pub commented_after_comment : (first : List ℕ) (ps : List Piece) (comment : Edit → List ℕ) (es : List Edit)
    → list_all not_feed (35 ∷ first) ≡ true → AllPrintable ps → AllFit es → ((e : Edit) → IsComment (comment e))
    → script_of (line_text (35 ∷ first) ps ++ commented comment es) ≡ Ok (numbered 2 es)
commented_after_comment first ps comment es f s h k =
    let whole = line (35 ∷ first) ps in
    spelled_read (line_text (35 ∷ first) ps ++ commented comment es) (numbered 2 es)
    (subst (λ (ls : List (List ℕ)). LinesEncode 1 ls (numbered 2 es))
    (sym (line_first (35 ∷ first) ps (commented comment es) f s))
    (inl (
      record { blanks = []; rest = whole; parts = refl; blank = refl; silent = refl },
      each_encode 2 comment es h k,
    )))

-- ---- putting a line

module _ {W : Type 0} {c : W → Option (List ℕ)} where
  pub puts_before : {o p q : Output W} (w : List ℕ) (ps : List Piece) → Puts c o p w → Puts c p q (flat_map spaced ps)
      → Puts c o q (before_feed (line_text w ps))
  puts_before w ps h k =
      puts_as (line w ps) (before_feed (line_text w ps)) (sym (before_line w ps)) (puts_then w (flat_map spaced ps) h k)
