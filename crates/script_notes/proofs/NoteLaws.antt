-- The notes of a text, line by line.
use Rattle.std.proofs.Common.{◌≡◌, ℕ, nat_le, Some, suc, Bool, true, false, List, [], ◌∷◌, ◌++◌, length, map, Ok}
use Rattle.std.proofs.Common.{Err, refl, sym, ap, ◌∙◌, append_assoc, arith}
use Rattle.std.proofs.lemmas.List.{append-nil, length-append}
use Rattle.script_tokens.specs.declared.cursor.TokenValue.{TokenValue}
use Rattle.script_tokens.specs.declared.tokens.Token.{Token}
use Rattle.script_tokens.specs.TokenValue.{token_value, values_of_lines, values_over}
use Rattle.script_tokens.specs.Pool.{and_then, gather}
use Rattle.script_tokens.proofs.GatherLaws.{gather_none, gather_on}
use Rattle.script_notes.specs.declared.limits.TheConstants.{MOST_NOTES}
use Rattle.script_notes.specs.declared.fault.NoteFault.{NoteFault}
use Rattle.script_notes.specs.declared.fault.NoteFault.TheVariants as faults
use Rattle.script_notes.specs.Notes.{Numbers, NoteResult, note, in_time}
use Rattle.script_notes.specs.Notes.{note_of_line, token_lines, notes_after, notes_of, with_note}
use Rattle.script_notes.proofs.BareLaws.{judged_alike, nothing_alike, something_alike}

-- ---- the line of a note or of its fault

pub line_without_tokens : (n : ℕ) (token_values : List TokenValue) (notes : List Numbers) → token_values ≡ []
    → with_note n token_values notes ≡ Ok notes
line_without_tokens n [] notes e = refl
line_without_tokens n (s ∷ token_values) notes e = cc

pub line_with_tokens : (n : ℕ) (token_values : List TokenValue) (notes : List Numbers) (r : NoteResult Numbers)
    → (token_values ≡ [] → ⊥)
    → note_of_line (length notes) n (note token_values) ≡ r
    → with_note n token_values notes ≡ and_then r (λ x. Ok (notes ++ x ∷ []))
line_with_tokens n [] notes r some e = absurd (some refl)
line_with_tokens n (s ∷ token_values) notes r some e = rw e refl

pub line_is_empty : (n : ℕ) (left : List TokenValue) (ts : List Token) (notes : List Numbers) → left ≡ values_over [] ts
    → left ≡ [] → with_note n (map token_value ts) notes ≡ Ok notes
line_is_empty n left ts notes e none = line_without_tokens n (map token_value ts) notes (nothing_alike [] ts (sym e ∙ none))

pub line_is_read : (n : ℕ) (left : List TokenValue) (ts : List Token) (notes : List Numbers) (r : NoteResult Numbers)
    → left ≡ values_over [] ts → (left ≡ [] → ⊥) → note_of_line (length notes) n (note left) ≡ r
    → with_note n (map token_value ts) notes ≡ and_then r (λ x. Ok (notes ++ x ∷ []))
line_is_read n left ts notes r e some j =
    line_with_tokens n (map token_value ts) notes r (something_alike [] ts (λ none. some (e ∙ none)))
    (sym (judged_alike (length notes) n [] ts)
    ∙ ap (λ (xs : List TokenValue). note_of_line (length notes) n (note xs)) (sym e) ∙ j)

pub no_room : (k n : ℕ) (x : Numbers) → nat_le MOST_NOTES k ≡ true → in_time k n (Some x) ≡ Err (faults.TooManyNotes n)
no_room k n x e = rw e refl

pub some_room : (k n : ℕ) (x : Numbers) → nat_le MOST_NOTES k ≡ false → in_time k n (Some x) ≡ Ok x
some_room k n x e = rw e refl

pub not_both : {b : Bool} → b ≡ true → b ≡ false → ⊥
not_both p q = cc

-- ---- the notes of a text, line by line

-- the notes, and those of the lines from line n on
abbrev then_notes : ℕ → List Numbers → List (List TokenValue) → NoteResult (List Numbers)
then_notes n notes lines = and_then (notes_after (length notes) (token_lines n lines)) (λ xs. Ok (notes ++ xs))

passed : (n : ℕ) (notes : List Numbers) (ls : List (List TokenValue))
    → then_notes n notes ([] ∷ ls) ≡ then_notes (suc n) notes ls
unfolding token_lines
passed n notes ls = refl

result_same : (notes : List Numbers) (x : Numbers) (r s : NoteResult (List Numbers)) → r ≡ s
    → and_then (and_then r (λ xs. Ok (x ∷ xs))) (λ xs. Ok (notes ++ xs))
    ≡ and_then s (λ xs. Ok ((notes ++ x ∷ []) ++ xs))
result_same notes x (Ok xs) s e = rw (← e) (ap (λ (l : List Numbers). Ok l) (sym (append_assoc notes (x ∷ []) xs)))
result_same notes x (Err d) s e = rw (← e) refl

read : (n : ℕ) (notes : List Numbers) (s : TokenValue) (l : List TokenValue) (ls : List (List TokenValue)) (x : Numbers)
    → note_of_line (length notes) n (note (s ∷ l)) ≡ Ok x
    → then_notes n notes ((s ∷ l) ∷ ls) ≡ then_notes (suc n) (notes ++ x ∷ []) ls
unfolding token_lines notes_after
read n notes s l ls x e =
    let len : suc (length notes) ≡ length (notes ++ x ∷ []) =
    (let h = length-append notes (x ∷ []) in omega (arith, h)) in
    ap
    (λ (r : NoteResult Numbers).
    and_then
    (and_then r
    (λ x. and_then (notes_after (suc (length notes)) (token_lines (suc n) ls)) (λ xs. Ok (x ∷ xs))))
    (λ xs. Ok (notes ++ xs)))
    e
    ∙ result_same notes x _ _ (ap (λ (k : ℕ). notes_after k (token_lines (suc n) ls)) len)

failed : (n : ℕ) (notes : List Numbers) (s : TokenValue) (l : List TokenValue) (ls : List (List TokenValue)) (d : NoteFault)
    → note_of_line (length notes) n (note (s ∷ l)) ≡ Err d
    → then_notes n notes ((s ∷ l) ∷ ls) ≡ Err d
unfolding token_lines notes_after
failed n notes s l ls d e =
    ap
    (λ (r : NoteResult Numbers).
    and_then
    (and_then r
    (λ x. and_then (notes_after (suc (length notes)) (token_lines (suc n) ls)) (λ xs. Ok (x ∷ xs))))
    (λ xs. Ok (notes ++ xs)))
    e

went_on : (n : ℕ) (notes more : List Numbers) (l : List TokenValue) (ls : List (List TokenValue))
    → with_note n l notes ≡ Ok more
    → then_notes n notes (l ∷ ls) ≡ then_notes (suc n) more ls
went_on n notes more [] ls e =
    let same : notes ≡ more = cc in passed n notes ls ∙ ap (λ (xs : List Numbers). then_notes (suc n) xs ls) same
went_on n notes more (s ∷ l) ls e = from (note_of_line (length notes) n (note (s ∷ l))) refl e
  where
    from : (r : NoteResult Numbers) → note_of_line (length notes) n (note (s ∷ l)) ≡ r
        → and_then r (λ x. Ok (notes ++ x ∷ [])) ≡ Ok more
        → then_notes n notes ((s ∷ l) ∷ ls) ≡ then_notes (suc n) more ls
    from (Ok x) j f =
        let same : notes ++ x ∷ [] ≡ more = cc in
        read n notes s l ls x j ∙ ap (λ (xs : List Numbers). then_notes (suc n) xs ls) same
    from (Err d) j f = cc

stopped : (n : ℕ) (notes : List Numbers) (l : List TokenValue) (ls : List (List TokenValue)) (d : NoteFault)
    → with_note n l notes ≡ Err d → then_notes n notes (l ∷ ls) ≡ Err d
stopped n notes [] ls d e = cc
stopped n notes (s ∷ l) ls d e = from (note_of_line (length notes) n (note (s ∷ l))) refl e
  where
    from : (r : NoteResult Numbers) → note_of_line (length notes) n (note (s ∷ l)) ≡ r
        → and_then r (λ x. Ok (notes ++ x ∷ [])) ≡ Err d → then_notes n notes ((s ∷ l) ∷ ls) ≡ Err d
    from (Ok x) j f = cc
    from (Err c) j f = let same : c ≡ d = cc in failed n notes s l ls d (j ∙ ap (λ (c : NoteFault). Err c) same)

none_left : (n : ℕ) (notes : List Numbers) → then_notes n notes [] ≡ Ok notes
unfolding token_lines notes_after
none_left n notes = ap (λ (xs : List Numbers). Ok xs) (append-nil notes)

-- the lines, read one by one, give the same notes
gathered : (n : ℕ) (notes : List Numbers) (ls : List (List TokenValue))
    → gather with_note n ls notes ≡ then_notes n notes ls
gathered n notes [] = gather_none with_note n notes ∙ sym (none_left n notes)
gathered n notes (l ∷ ls) =
    gather_on with_note n l ls notes ∙ from (λ more. gathered (suc n) more ls) (with_note n l notes) refl
  where
    from : ((more : List Numbers) → gather with_note (suc n) ls more ≡ then_notes (suc n) more ls)
        → (r : NoteResult (List Numbers)) → with_note n l notes ≡ r
        → and_then r (λ more. gather with_note (suc n) ls more) ≡ then_notes n notes (l ∷ ls)
    from rest (Ok more) e = rest more ∙ sym (went_on n notes more l ls e)
    from rest (Err d) e = sym (stopped n notes l ls d e)

from_start : (r : NoteResult (List Numbers)) → and_then r (λ xs. Ok ([] ++ xs)) ≡ r
from_start (Ok xs) = refl
from_start (Err d) = refl

pub notes_gathered : (text : List ℕ) → gather with_note 1 (values_of_lines text) [] ≡ notes_of text
unfolding notes_of
notes_gathered text = gathered 1 [] (values_of_lines text) ∙ from_start (notes_after 0 (token_lines 1 (values_of_lines text)))
