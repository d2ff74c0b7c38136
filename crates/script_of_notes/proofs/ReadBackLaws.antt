-- The text of a note list reads as its notes.
use Rattle.std.proofs.Common.{◌≡◌, ◌≤◌, ◌<◌, ◌^◌, ℕ, suc, ◌+◌, List, [], ◌∷◌, ◌++◌, length, map, decimal, Some, None, Ok}
use Rattle.std.proofs.Common.{Bool, true, false, nat_le, ◌&&◌, refl, sym, ap, ◌∙◌, arith}
use Rattle.std.specs.List.{flat_map, list_all, AllByRecursion}
use Rattle.std.proofs.lemmas.Bool.Decides.{nat_tests}
use Rattle.script_tokens.specs.declared.cursor.TokenValue.{TokenValue}
use Rattle.script_tokens.specs.declared.cursor.TokenValue.TheVariants.{Word}
use Rattle.script_tokens.specs.declared.printing.Piece.TheVariants.{Number}
use Rattle.script_tokens.specs.Lines.{lines_of}
use Rattle.script_tokens.specs.Parsers.{most_word, most_double_word, number, ended}
use Rattle.script_tokens.specs.Printing.{piece_text}
use Rattle.script_tokens.specs.TextForm.{is_word}
use Rattle.script_tokens.specs.TokenValue.{values_in}
use Rattle.script_tokens.proofs.TestLaws.{not_feed}
use Rattle.script_tokens.proofs.LexLaws.{lines_none}
use Rattle.script_tokens.proofs.CompletenessLaws.{line_values, number_read}
use Rattle.script_tokens.proofs.PieceLaws.{piece_value, line, line_has_values, line_first, printable_number, writes, AllPrintable}
use Rattle.script_notes.specs.declared.limits.TheConstants.{MOST_NOTES, LAST_FRAME, HIGHEST_KEY, HIGHEST_VELOCITY}
use Rattle.script_notes.specs.Notes.{Numbers, IsNote, note, note_of, in_time, token_lines, notes_after, notes_of}
use Rattle.script_of_notes.specs.NoteTexts.{note_pieces, note_text, notes_text, IsListed}

-- ---- the values of a line

abbrev values : Numbers → List TokenValue
values n = Word (decimal n.start) ∷ map piece_value (note_pieces n)

abbrev bare : Numbers → List ℕ
bare n = line (decimal n.start) (note_pieces n)

-- the numbers are small enough for a token
record AreSmall (n : Numbers) : Type 0 where
  start : n.start < 2 ^ 32
  length : n.length < 2 ^ 32
  bank : n.bank < 2 ^ 32
  number : n.number < 2 ^ 32
  key : n.key < 2 ^ 32
  velocity : n.velocity < 2 ^ 32

are_small : (n : Numbers) → IsListed n → AreSmall n
are_small n h =
    let e = h.note.ends in
    let k = h.note.key in
    let v = h.note.velocity in
    let b = h.bank in
    let m = h.number in
    record {
      start = omega (arith, e);
      length = omega (arith, e);
      bank = omega (arith, b);
      number = omega (arith, m);
      key = omega (arith, k);
      velocity = omega (arith, v);
    }

printable : (n : Numbers) → AreSmall n → AllPrintable (note_pieces n)
printable n h = (
  printable_number n.length h.length,
  (
    printable_number n.bank h.bank,
    (printable_number n.number h.number, (printable_number n.key h.key, (printable_number n.velocity h.velocity, tt))),
  ),
)

-- decimal digits are a word, without a line feed
digits_feed : (n : ℕ) → n < 2 ^ 32 → list_all not_feed (decimal n) ≡ true
unfolding piece_text
digits_feed n h = (printable_number n h).no_feed

digits_word : (n : ℕ) → n < 2 ^ 32 → is_word (decimal n) ≡ true
unfolding piece_text
digits_word n h = (printable_number n h).shows.1

values_are : (n : Numbers) → AreSmall n → values_in (bare n) ≡ values n
values_are n h =
    line_values (values n) (bare n)
    (line_has_values (decimal n.start) (note_pieces n) (digits_word n.start h.start) (printable n h))

-- ---- the note of a line

pub note_is : (n : Numbers) → IsNote n → note_of n ≡ Some n
unfolding note_of
note_is n h =
    let e = h.ends in
    let k = h.key in
    let v = h.velocity in
    let ends : nat_le (n.start + n.length) LAST_FRAME ≡ true = grind (arith, nat_tests, e) in
    let key : nat_le n.key HIGHEST_KEY ≡ true = grind (arith, nat_tests, k) in
    let velocity : nat_le n.velocity HIGHEST_VELOCITY ≡ true = grind (arith, nat_tests, v) in
    rw (ends, key, velocity) refl

reads : (limit n : ℕ) (rest : List TokenValue) → n ≤ limit → limit < 2 ^ 32
    → number limit (Word (decimal n) ∷ rest) ≡ Ok (record { value = n; rest = rest })
reads limit n rest h l = number_read limit n (decimal n) rest (writes limit n h l)

note_read : (n : Numbers) → IsListed n → note (values n) ≡ Ok (record { value = Some n; rest = [] })
unfolding note ended
note_read n h =
    let e = h.note.ends in
    let v5 : List TokenValue = Word (decimal n.velocity) ∷ [] in
    let v4 : List TokenValue = Word (decimal n.key) ∷ v5 in
    let v3 : List TokenValue = Word (decimal n.number) ∷ v4 in
    let v2 : List TokenValue = Word (decimal n.bank) ∷ v3 in
    let v1 : List TokenValue = Word (decimal n.length) ∷ v2 in
    let start = reads most_double_word n.start v1 (omega (arith, e)) (omega arith) in
    let length = reads most_double_word n.length v2 (omega (arith, e)) (omega arith) in
    let bank = reads most_word n.bank v3 h.bank (omega arith) in
    let number = reads most_word n.number v4 h.number (omega arith) in
    let key = reads HIGHEST_KEY n.key v5 h.note.key (omega arith) in
    let velocity = reads HIGHEST_VELOCITY n.velocity [] h.note.velocity (omega arith) in
    rw (start, length, bank, number, key, velocity, note_is n h.note) refl

-- ---- all lines

lines_are : (ns : List Numbers) → AllByRecursion IsListed ns → lines_of (notes_text ns) ≡ map bare ns
lines_are [] h = lines_none
lines_are (n ∷ ns) h =
    let small = are_small n h.0 in
    line_first (decimal n.start) (note_pieces n) (notes_text ns) (digits_feed n.start small.start)
    (printable n small)
    ∙ ap (λ (ls : List (List ℕ)). bare n ∷ ls) (lines_are ns h.1)

all_values : (ns : List Numbers) → AllByRecursion IsListed ns → map values_in (map bare ns) ≡ map values ns
all_values [] h = refl
all_values (n ∷ ns) h = λ j. values_are n (are_small n h.0) j ∷ all_values ns h.1 j

room : (k m : ℕ) (n : Numbers) → k < MOST_NOTES → in_time k m (Some n) ≡ Ok n
room k m n h = let e : nat_le MOST_NOTES k ≡ false = grind (arith, nat_tests) in rw e refl

notes_read : (k m : ℕ) (ns : List Numbers) → AllByRecursion IsListed ns → k + length ns ≤ MOST_NOTES
    → notes_after k (token_lines m (map values ns)) ≡ Ok ns
unfolding notes_after token_lines
notes_read k m [] h few = refl
notes_read k m (n ∷ ns) h few =
    let read = note_read n h.0 in
    let here = room k m n (omega (arith, few)) in
    let rest = notes_read (suc k) (suc m) ns h.1 (omega (arith, few)) in
    rw (read, here, rest) refl

pub notes_read_back : (ns : List Numbers) → AllByRecursion IsListed ns → length ns ≤ MOST_NOTES
    → notes_of (notes_text ns) ≡ Ok ns
unfolding notes_of
notes_read_back ns h few =
    ap (λ (ls : List (List ℕ)). notes_after 0 (token_lines 1 (map values_in ls))) (lines_are ns h)
    ∙ ap (λ (vs : List (List TokenValue)). notes_after 0 (token_lines 1 vs)) (all_values ns h)
    ∙ notes_read 0 1 ns h (omega (arith, few))
