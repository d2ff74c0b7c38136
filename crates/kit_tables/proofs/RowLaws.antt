-- The rows of a table, line by line.
use Rattle.std.proofs.Common.{◌≡◌, ◌<◌, ℕ, nat_le, map, Option, Some, None, suc, true, false, List, [], ◌∷◌, ◌++◌}
use Rattle.std.proofs.Common.{length, Ok, Err, refl, sym, ap, ◌∙◌, append_assoc, arith}
use Rattle.std.proofs.lemmas.List.{append-nil, length-append}
use Rattle.script_tokens.specs.Tokens.{FirstToken, token_at, after_blanks}
use Rattle.script_tokens.specs.Lines.{lines_of}
use Rattle.script_tokens.specs.Pool.{and_then}
use Rattle.kit_tables.specs.declared.limits.TheConstants.{MOST_ROWS}
use Rattle.kit_tables.specs.declared.fault.KitFault.{KitFault}
use Rattle.kit_tables.specs.declared.fault.KitFault.TheVariants as faults
use Rattle.kit_tables.specs.declared.row.KitRow.{KitRow}
use Rattle.kit_tables.specs.Rows.{Row, row_of, KitResult, row, row_after, token_lines, rows_after, at_least_one}
use Rattle.kit_tables.specs.Rows.{rows_of}
use Rattle.kit_tables.specs.Rows.{with_first, with_row}

-- ---- the rows after one more line

pub line_is_empty : (n : ℕ) (line : List ℕ) (rows : List Row) → token_at (after_blanks line) ≡ None
    → with_row n line rows ≡ Ok rows
line_is_empty n line rows e = rw e refl

pub line_is_read : (n : ℕ) (line : List ℕ) (rows : List Row) (first : FirstToken) (o : Option Row) (r : KitResult Row)
    → token_at (after_blanks line) ≡ Some first → row n first ≡ o → row_after (length rows) n o ≡ r
    → with_row n line rows ≡ and_then r (λ x. Ok (rows ++ x ∷ []))
line_is_read n line rows first o r e f g = rw (e, f, g) refl

pub no_room : (k n : ℕ) (x : Row) → nat_le MOST_ROWS k ≡ true → row_after k n (Some x) ≡ Err (faults.TooManyRows n)
no_room k n x e = rw e refl

pub some_room : (k n : ℕ) (x : Row) → nat_le MOST_ROWS k ≡ false → row_after k n (Some x) ≡ Ok x
some_room k n x e = rw e refl

-- ---- the rows of a text, line by line

-- the rows, and those of the lines from line n on
abbrev pub then_rows : ℕ → List Row → List (List ℕ) → KitResult (List Row)
then_rows n rows lines = and_then (rows_after (length rows) (token_lines n lines)) (λ xs. Ok (rows ++ xs))

result_same : (rows : List Row) (x : Row) (r : KitResult (List Row))
    → and_then (and_then r (λ xs. Ok (x ∷ xs))) (λ xs. Ok (rows ++ xs)) ≡ and_then r (λ xs. Ok ((rows ++ x ∷ []) ++ xs))
result_same rows x (Ok xs) = ap (λ (l : List Row). Ok l) (sym (append_assoc rows (x ∷ []) xs))
result_same rows x (Err d) = refl

passed : (n : ℕ) (rows : List Row) (l : List ℕ) (ls : List (List ℕ)) → token_at (after_blanks l) ≡ None
    → then_rows n rows (l ∷ ls) ≡ then_rows (suc n) rows ls
unfolding token_lines
passed n rows l ls e = rw e refl

read : (n : ℕ) (rows : List Row) (l : List ℕ) (ls : List (List ℕ)) (first : FirstToken) (x : Row)
    → token_at (after_blanks l) ≡ Some first → row_after (length rows) n (row n first) ≡ Ok x
    → then_rows n rows (l ∷ ls) ≡ then_rows (suc n) (rows ++ x ∷ []) ls
unfolding token_lines rows_after
read n rows l ls first x e f =
    let len : suc (length rows) ≡ length (rows ++ x ∷ []) = (let h = length-append rows (x ∷ []) in omega (arith, h)) in
    rw (e, f) (result_same rows x _)
    ∙ ap (λ (k : ℕ). and_then (rows_after k (token_lines (suc n) ls)) (λ xs. Ok ((rows ++ x ∷ []) ++ xs))) len

failed : (n : ℕ) (rows : List Row) (l : List ℕ) (ls : List (List ℕ)) (first : FirstToken) (d : KitFault)
    → token_at (after_blanks l) ≡ Some first → row_after (length rows) n (row n first) ≡ Err d
    → then_rows n rows (l ∷ ls) ≡ Err d
unfolding token_lines rows_after
failed n rows l ls first d e f = rw (e, f) refl

pub went_on : (n m : ℕ) (rows more : List Row) (l : List ℕ) (ls all : List (List ℕ)) (whole : KitResult (List Row))
    → m ≡ suc n → all ≡ l ∷ ls → then_rows n rows all ≡ whole → with_row n l rows ≡ Ok more
    → then_rows m more ls ≡ whole
went_on n m rows more l ls all whole em e h j =
    rw em (sym (from (token_at (after_blanks l)) refl j) ∙ (rw e at h))
  where
    with_token : (first : FirstToken) → token_at (after_blanks l) ≡ Some first
        → (r : KitResult Row) → row_after (length rows) n (row n first) ≡ r
        → and_then r (λ x. Ok (rows ++ x ∷ [])) ≡ Ok more
        → then_rows n rows (l ∷ ls) ≡ then_rows (suc n) more ls
    with_token first f (Ok x) g k =
        let same : rows ++ x ∷ [] ≡ more = cc in
        read n rows l ls first x f g ∙ ap (λ (xs : List Row). then_rows (suc n) xs ls) same
    with_token first f (Err d) g k = cc

    from : (o : Option FirstToken) → token_at (after_blanks l) ≡ o → with_first n o rows ≡ Ok more
        → then_rows n rows (l ∷ ls) ≡ then_rows (suc n) more ls
    from None f k =
        let same : rows ≡ more = cc in passed n rows l ls f ∙ ap (λ (xs : List Row). then_rows (suc n) xs ls) same
    from (Some first) f k = with_token first f (row_after (length rows) n (row n first)) refl k

pub stopped : (n : ℕ) (rows : List Row) (l : List ℕ) (ls all : List (List ℕ)) (d : KitFault)
    → all ≡ l ∷ ls → with_row n l rows ≡ Err d → then_rows n rows all ≡ Err d
stopped n rows l ls all d e j = rw e (from (token_at (after_blanks l)) refl j)
  where
    with_token : (first : FirstToken) → token_at (after_blanks l) ≡ Some first
        → (r : KitResult Row) → row_after (length rows) n (row n first) ≡ r
        → and_then r (λ x. Ok (rows ++ x ∷ [])) ≡ Err d → then_rows n rows (l ∷ ls) ≡ Err d
    with_token first f (Ok x) g k = cc
    with_token first f (Err c) g k =
        let same : c ≡ d = cc in failed n rows l ls first d f (g ∙ ap (λ (c : KitFault). Err c) same)

    from : (o : Option FirstToken) → token_at (after_blanks l) ≡ o → with_first n o rows ≡ Err d
        → then_rows n rows (l ∷ ls) ≡ Err d
    from None f k = cc
    from (Some first) f k = with_token first f (row_after (length rows) n (row n first)) refl k

pub none_left : (n : ℕ) (rows : List Row) (all : List (List ℕ)) → all ≡ [] → then_rows n rows all ≡ Ok rows
unfolding token_lines rows_after
none_left n rows all e = rw e (ap (λ (xs : List Row). Ok xs) (append-nil rows))

from_start : (r : KitResult (List Row)) → and_then r (λ xs. Ok ([] ++ xs)) ≡ r
from_start (Ok xs) = refl
from_start (Err d) = refl

-- ---- the whole text

pub fault_of_text : (text : List ℕ) (d : KitFault) → then_rows 1 [] (lines_of text) ≡ Err d → rows_of text ≡ Err d
unfolding rows_of
fault_of_text text d e =
    ap (λ (r : KitResult (List Row)). and_then r at_least_one)
    (sym (from_start (rows_after 0 (token_lines 1 (lines_of text)))) ∙ e)

rows_of_text : (text : List ℕ) (rows : List Row) → then_rows 1 [] (lines_of text) ≡ Ok rows
    → rows_of text ≡ at_least_one rows
unfolding rows_of
rows_of_text text rows e =
    ap (λ (r : KitResult (List Row)). and_then r at_least_one)
    (sym (from_start (rows_after 0 (token_lines 1 (lines_of text)))) ∙ e)

pub no_rows : (text : List ℕ) (rows : List KitRow) → then_rows 1 [] (lines_of text) ≡ Ok (map row_of rows)
    → length rows ≡ 0 → rows_of text ≡ Err (faults.NoRows 1)
no_rows text [] e none = rows_of_text text [] e
no_rows text (x ∷ xs) e none = absurd (omega (arith, none))

pub some_rows : (text : List ℕ) (rows : List KitRow) → then_rows 1 [] (lines_of text) ≡ Ok (map row_of rows)
    → 0 < length rows → rows_of text ≡ Ok (map row_of rows)
some_rows text [] e some = absurd (omega (arith, some))
some_rows text (x ∷ xs) e some = rows_of_text text (map row_of (x ∷ xs)) e
