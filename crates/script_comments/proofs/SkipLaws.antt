-- A line has the same values with a comment after it.
use Rattle.std.proofs.Common.{◌≡◌, ℕ, Bool, true, false, List, [], ◌∷◌, ◌++◌, refl, sym, ap, subst, ◌∙◌, append_assoc}
use Rattle.std.specs.Prelude.{IsTrue}
use Rattle.std.specs.List.{list_all, flat_map}
use Rattle.std.proofs.lemmas.Bool.{and_parts, and_from}
use Rattle.std.proofs.lemmas.List.Folds.{list_all-append}
use Rattle.script_tokens.specs.declared.cursor.TokenValue.{TokenValue}
use Rattle.script_tokens.specs.declared.printing.Piece.{Piece}
use Rattle.script_tokens.specs.Lines.{lines_of, onto, is_feed}
use Rattle.script_tokens.specs.Tokens.{is_blank, ends_well}
use Rattle.script_tokens.specs.Printing.{spaced}
use Rattle.script_tokens.specs.TextForm.{is_silent, HasNoTokens, Begins, LineHasValues}
use Rattle.script_tokens.proofs.TestLaws.{not_feed, not_true}
use Rattle.script_tokens.proofs.LexLaws.{lines_yes, lines_no}
use Rattle.script_tokens.proofs.PieceLaws.{AllPrintable}
use Rattle.script_comments.specs.Lines.{IsComment}
use Rattle.script_comments.specs.Items.{lead_text, items_text, comment_text}

-- ---- the tokens of a line

-- after blanks: at the line's end the comment begins, and a comment goes on
silent_on : (blanks rest comment : List ℕ) → IsTrue (list_all is_blank blanks) → IsTrue (is_silent rest)
    → HasNoTokens comment → HasNoTokens (blanks ++ (rest ++ comment))
silent_on blanks [] comment b s h =
    record {
      blanks =
          blanks ++ h.blanks;
      rest =
          h.rest;
      parts =
          ap (λ (t : List ℕ). blanks ++ t) h.parts ∙ sym (append_assoc blanks h.blanks h.rest);
      blank = list_all-append is_blank blanks h.blanks ∙ and_from _ _ b h.blank;
      silent = h.silent;
    }
silent_on blanks (x ∷ rest) comment b s h =
    record { blanks = blanks; rest = x ∷ (rest ++ comment); parts = refl; blank = b; silent = s }

ends_on : (after comment : List ℕ) → IsTrue (ends_well after) → IsTrue (ends_well comment)
    → IsTrue (ends_well (after ++ comment))
ends_on [] comment a h = h
ends_on (x ∷ after) comment a h = a

no_tokens_on : (line comment : List ℕ) → HasNoTokens line → IsComment comment → HasNoTokens (line ++ comment)
no_tokens_on line comment l h =
    subst HasNoTokens
    (sym (ap (λ (t : List ℕ). t ++ comment) l.parts ∙ append_assoc l.blanks l.rest comment))
    (silent_on l.blanks l.rest comment l.blank l.silent h.silent)

begins_on : (line after comment : List ℕ) (s : TokenValue) → Begins line s after → IsComment comment
    → Begins (line ++ comment) s (after ++ comment)
begins_on line after comment s l h = record {
  blanks = l.blanks;
  token = l.token;
  parts =
      ap (λ (t : List ℕ). t ++ comment) l.parts ∙ append_assoc l.blanks (l.token ++ after) comment
      ∙ ap (λ (t : List ℕ). l.blanks ++ t) (append_assoc l.token after comment);
  blank = l.blank;
  shows = l.shows;
  apart = ends_on after comment l.apart h.apart;
}

pub has_values_on : (line comment : List ℕ) (ss : List TokenValue) → LineHasValues line ss → IsComment comment
    → LineHasValues (line ++ comment) ss
has_values_on line comment [] l h = no_tokens_on line comment l h
has_values_on line comment (s ∷ ss) l h = (
  l.0 ++ comment,
  begins_on line l.0 comment s l.1 h,
  has_values_on l.0 comment ss l.2 h,
)

-- ---- the lines of a text

pub fed : (l rest : List ℕ) → list_all not_feed l ≡ true → lines_of (l ++ 10 ∷ rest) ≡ l ∷ lines_of rest
fed [] rest h = lines_yes 10 rest refl
fed (b ∷ l) rest h =
    let g = and_parts (not_feed b) (list_all not_feed l) h in
    lines_no b (l ++ 10 ∷ rest) (not_true (is_feed b) g.0) ∙ ap (onto b) (fed l rest g.1)

-- ---- comments of items

pub spaced_feed : (ps : List Piece) → AllPrintable ps → list_all not_feed (flat_map spaced ps) ≡ true
spaced_feed [] h = refl
spaced_feed (p ∷ ps) h =
    list_all-append not_feed (spaced p) (flat_map spaced ps) ∙ and_from _ _ h.0.no_feed (spaced_feed ps h.1)

-- each piece of each item is printable
abbrev pub ArePrintable : List (List Piece) → Type 0
ArePrintable [] = Unit {0}
ArePrintable (x ∷ xs) = AllPrintable x × ArePrintable xs

lead_feed : (commas : Bool) → list_all not_feed (lead_text true commas) ≡ true
lead_feed true = refl
lead_feed false = refl

begun_feed : (commas : Bool) (items : List (List Piece)) → ArePrintable items
    → list_all not_feed (items_text true commas items) ≡ true
begun_feed commas [] h = refl
begun_feed commas (x ∷ items) h =
    list_all-append not_feed (lead_text true commas) (flat_map spaced x ++ items_text true commas items)
    ∙ and_from _ _ (lead_feed commas)
    (list_all-append not_feed (flat_map spaced x) (items_text true commas items)
    ∙ and_from _ _ (spaced_feed x h.0) (begun_feed commas items h.1))

pub items_comment : (commas : Bool) (items : List (List Piece)) → ArePrintable items
    → IsComment (comment_text commas items)
items_comment commas [] h = record {
  silent = record { blanks = []; rest = []; parts = refl; blank = refl; silent = refl };
  apart = refl;
  one_line = refl;
}
items_comment commas (x ∷ items) h = record {
  silent =
      record {
        blanks =
            32 ∷ 32 ∷ 32 ∷ [];
        rest = 35 ∷ (flat_map spaced x ++ items_text true commas items);
        parts = refl;
        blank = refl;
        silent = refl;
      };
  apart = refl;
  one_line =
      list_all-append not_feed (flat_map spaced x) (items_text true commas items)
      ∙ and_from _ _ (spaced_feed x h.0) (begun_feed commas items h.1);
}

pub printable_both : (xs ys : List (List Piece)) → ArePrintable xs → ArePrintable ys → ArePrintable (xs ++ ys)
printable_both [] ys h k = k
printable_both (x ∷ xs) ys h k = (h.0, printable_both xs ys h.1 k)

pub printable_all : {X : Type 0} (f : X → List (List Piece)) → ((x : X) → ArePrintable (f x)) → (xs : List X)
    → ArePrintable (flat_map f xs)
printable_all f h [] = tt
printable_all f h (x ∷ xs) = printable_both (f x) (flat_map f xs) (h x) (printable_all f h xs)
