-- The pieces of printed lines have the values that they are made of.
use Rattle.std.proofs.Common.{◌≤◌, ◌≡◌, ◌<◌, ◌^◌, ◌+◌, ◌*◌, ◌-◌, ℕ, ℤ, pos, negsuc, zero, suc, Bool, true, false}
use Rattle.std.proofs.Common.{List, [], ◌∷◌, ◌++◌, length, map, decimal, refl, ap, subst, ◌∙◌, append_assoc, rules}
use Rattle.std.proofs.Common.{arith, inl, inr}
use Rattle.std.specs.Prelude.{fold, ◌||◌, ◌==◌}
use Rattle.std.specs.Fmt.{signed_decimal}
use Rattle.std.specs.List.{list_all, flat_map, AllByRecursion}
use Rattle.std.proofs.lemmas.Bool.{and_parts, and_from}
use Rattle.std.proofs.lemmas.List.{length-append}
use Rattle.std.proofs.lemmas.List.Sums.{list_all-from_AllPass}
use Rattle.std.proofs.lemmas.List.Folds.{list_all-append}
use Rattle.std.proofs.lemmas.Str.Parse.{IsNumeralModel, numerals_by_fold}
use Rattle.std.proofs.lemmas.Fmt.{digits_decimal, digits_value-decimal, length-decimal-le, decimal_nonempty}
use Rattle.hex.specs.Hex.{encode_lower, is_hex_digit, IsBytes}
use Rattle.hex.proofs.HexLemmas.{decode_of-ok, decode_of-encode_lower}
use Rattle.sf_base.specs.Names.{IsTextByte, IsName}
use Rattle.script_tokens.specs.declared.cursor.TokenValue.{TokenValue}
use Rattle.script_tokens.specs.declared.cursor.TokenValue.TheVariants as variants
use Rattle.script_tokens.specs.declared.printing.Piece.{Piece}
use Rattle.script_tokens.specs.declared.printing.Piece.TheVariants.{Number, Signed, Range, Word, Name, Hex}
use Rattle.script_tokens.specs.Lines.{lines_of, onto, is_feed}
use Rattle.script_tokens.specs.Tokens.{ends_well}
use Rattle.script_tokens.specs.Parsers.{is_digit}
use Rattle.script_tokens.specs.Printing.{is_quotable, hex_literal, name_text, piece_text, spaced, line_text}
use Rattle.script_tokens.specs.TextForm.{is_word, not_blank, IsQuoted, Shows, LineHasValues, Writes, WritesSigned}
use Rattle.script_tokens.specs.TextForm.{WritesRange, IsWithin}
use Rattle.script_tokens.proofs.TestLaws.{not_true, list_all_weaker, differs, not_feed, no_blank_of, not_blank_of}
use Rattle.script_tokens.proofs.TestLaws.{not_feed_of}
use Rattle.script_tokens.proofs.LexLaws.{lines_yes, lines_no}
use Rattle.script_tokens.proofs.PrintLaws.{line_spaced}

-- ---- words

-- bytes that all pass a test that rejects blanks and the first bytes of comments and literals
pub word_of : (p : ℕ → Bool) → p 32 ≡ false → p 9 ≡ false → p 13 ≡ false → p 35 ≡ false → p 34 ≡ false
    → p 120 ≡ false → (w : List ℕ) → 0 < length w → list_all p w ≡ true → is_word w ≡ true
word_of p x y z c q h [] l e = absurd (omega arith)
word_of p x y z c q h (b ∷ w) l e =
    let g = and_parts (p b) (list_all p w) e in
    let blank = no_blank_of p x y z b g.0 in
    let comment = differs p 35 b c g.0 in
    let quote = differs p 34 b q g.0 in
    let hex = differs p 120 b h g.0 in
    let rest = list_all_weaker p not_blank (not_blank_of p x y z) w g.1 in
    rw (comment, quote, hex, blank, rest) refl

-- ---- numbers

abbrev own_digits : List ℕ → Type 0
own_digits w = list_all is_digit w ≡ true

abbrev own_value : ℕ → List ℕ → ℕ
own_value n w = fold (λ n b. n * 10 + (b - 48)) n w

own : IsNumeralModel own_digits (own_value 0)
own = numerals_by_fold _ (search rules) own_value (search rules)

pub all_digits : (n : ℕ) → n < 2 ^ 32 → list_all is_digit (decimal n) ≡ true
all_digits n h = let small : n < 2 ^ 64 = omega arith in digits_decimal own n small

pub some_digits : (n : ℕ) → n < 2 ^ 32 → 0 < length (decimal n)
some_digits n h = let small : n < 2 ^ 64 = omega arith in decimal_nonempty n small

pub writes : (limit n : ℕ) → n ≤ limit → limit < 2 ^ 32 → Writes limit (decimal n) n
writes limit n h l =
    let small : n < 2 ^ 64 = omega arith in
    let under : n < 2 ^ 32 = omega (arith, h, l) in
    record {
      some = some_digits n under;
      few = length-decimal-le 10 n (omega arith) (omega arith) small;
      digits = all_digits n under;
      value = digits_value-decimal own n small;
      within = h;
    }

pub writes_signed : (limit : ℕ) (z : ℤ) → IsWithin limit z → limit < 2 ^ 16 → WritesSigned limit (signed_decimal z) z
writes_signed limit (pos n) h l =
    inr (record { number = n; writes = writes limit n h (omega (arith, l)); value = refl })
writes_signed limit (negsuc n) h l =
    inl
    (record {
      digits =
          decimal (suc n);
      number =
          suc n;
      parts =
          refl;
      writes = writes (limit + 1) (suc n) (omega (arith, h)) (omega (arith, l));
      value = refl;
    })

-- the two ends, with `..` between them
abbrev pub range_text : ℕ → ℕ → List ℕ
range_text low high = decimal low ++ 46 ∷ 46 ∷ decimal high

pub writes_range : (low high : ℕ) → low ≤ 255 → high ≤ 255 → WritesRange (range_text low high) low high
writes_range low high h k =
    record {
      before =
          decimal low;
      bytes_after =
          decimal high;
      parts =
          refl;
      writes_low = writes 255 low h (omega arith);
      writes_high = writes 255 high k (omega arith);
    }

-- ---- names

name_bytes : (n : List ℕ) → AllByRecursion IsTextByte n → IsBytes n
name_bytes [] h i = omega arith
name_bytes (b ∷ n) h zero = h.0.1
name_bytes (b ∷ n) h (suc i) = name_bytes n h.1 i

pub are_bytes : (bytes : List ℕ) → AllByRecursion (λ b. b < 2 ^ 8) bytes → IsBytes bytes
are_bytes [] h i = omega arith
are_bytes (b ∷ bytes) h zero = let l = h.0 in omega (arith, l)
are_bytes (b ∷ bytes) h (suc i) = are_bytes bytes h.1 i

pub bytes_are : (bytes : List ℕ) → IsBytes bytes → AllByRecursion (λ b. b < 2 ^ 8) bytes
bytes_are [] h = tt
bytes_are (b ∷ bytes) h = (let l = h 0 in omega (arith, l), bytes_are bytes (λ i. h (suc i)))

hex_digits : (bytes : List ℕ) → IsBytes bytes → list_all is_hex_digit (encode_lower bytes) ≡ true
hex_digits bytes h =
    list_all-from_AllPass is_hex_digit (encode_lower bytes)
    (decode_of-ok (encode_lower bytes) bytes (decode_of-encode_lower bytes h)).1

hex_feed : (bytes : List ℕ) → IsBytes bytes → list_all not_feed (hex_literal bytes) ≡ true
hex_feed bytes h =
    list_all_weaker is_hex_digit not_feed (not_feed_of is_hex_digit refl) (encode_lower bytes) (hex_digits bytes h)

quotes_feed : (bytes : List ℕ) → list_all is_quotable bytes ≡ true → list_all not_feed (34 ∷ bytes ++ 34 ∷ []) ≡ true
quotes_feed bytes h =
    list_all-append not_feed bytes (34 ∷ [])
    ∙ and_from _ _ (list_all_weaker is_quotable not_feed (not_feed_of is_quotable refl) bytes h) refl

-- ---- pieces

-- the value of a piece
abbrev pub piece_value : Piece → TokenValue
piece_value (Number n) = variants.Word (decimal n)
piece_value (Name bytes) = variants.Literal bytes
piece_value (Word bytes) = variants.Word bytes
piece_value (Signed z) = variants.Word (signed_decimal z)
piece_value (Range low high) = variants.Word (range_text low high)
piece_value (Hex bytes) = variants.Literal bytes

-- a piece has its value as a token, and contains no line feed
pub record IsPrintable (p : Piece) : Type 0 where
  pub shows : Shows (piece_text p) (piece_value p)
  pub no_feed : list_all not_feed (piece_text p) ≡ true

pub printable_number : (n : ℕ) → n < 2 ^ 32 → IsPrintable (Number n)
unfolding piece_text
printable_number n h = record {
  shows = (refl, word_of is_digit refl refl refl refl refl refl (decimal n) (some_digits n h) (all_digits n h));
  no_feed = list_all_weaker is_digit not_feed (not_feed_of is_digit refl) (decimal n) (all_digits n h);
}

printable_minus : (n : ℕ) → suc n < 2 ^ 32 → IsPrintable (Signed (negsuc n))
unfolding piece_text
printable_minus n h =
    let digits = all_digits (suc n) h in
    let blanks = list_all_weaker is_digit not_blank (not_blank_of is_digit refl refl refl) (decimal (suc n)) digits in
    let feeds = list_all_weaker is_digit not_feed (not_feed_of is_digit refl) (decimal (suc n)) digits in
    record { shows = (refl, rw blanks refl); no_feed = rw feeds refl }

printable_plus : (n : ℕ) → n < 2 ^ 32 → IsPrintable (Signed (pos n))
unfolding piece_text
printable_plus n h = let s = printable_number n h in record { shows = s.shows; no_feed = s.no_feed }

pub printable_signed : (limit : ℕ) (z : ℤ) → IsWithin limit z → limit < 2 ^ 16 → IsPrintable (Signed z)
printable_signed limit (pos n) h l = printable_plus n (omega (arith, h, l))
printable_signed limit (negsuc n) h l = printable_minus n (omega (arith, h, l))

-- a digit or a dot
abbrev in_range : ℕ → Bool
in_range b = is_digit b || b == 46

digit_in_range : (b : ℕ) → is_digit b ≡ true → in_range b ≡ true
digit_in_range b e = rw e refl

range_in_range : (low high : ℕ) → low < 2 ^ 32 → high < 2 ^ 32 → list_all in_range (range_text low high) ≡ true
range_in_range low high h k =
    list_all-append in_range (decimal low) (46 ∷ 46 ∷ decimal high)
    ∙ and_from _ _ (list_all_weaker is_digit in_range digit_in_range (decimal low) (all_digits low h))
    (list_all_weaker is_digit in_range digit_in_range (decimal high) (all_digits high k))

pub printable_range : (low high : ℕ) → low ≤ 255 → high ≤ 255 → IsPrintable (Range low high)
unfolding piece_text
printable_range low high h k =
    let all = range_in_range low high (omega (arith, h)) (omega (arith, k)) in
    let some : 0 < length (range_text low high) = omega (arith, length-append (decimal low) (46 ∷ 46 ∷ decimal high)) in
    record {
      shows = (refl, word_of in_range refl refl refl refl refl refl (range_text low high) some all);
      no_feed = list_all_weaker in_range not_feed (not_feed_of in_range refl) (range_text low high) all;
    }

pub printable_hex : (bytes : List ℕ) → IsBytes bytes → IsPrintable (Hex bytes)
unfolding piece_text
printable_hex bytes h =
    record {
      shows =
          inr (record { digits = encode_lower bytes; parts = refl; value = decode_of-encode_lower bytes h });
      no_feed =
          hex_feed bytes h;
    }

name_quoted : (bytes : List ℕ) → list_all is_quotable bytes ≡ true → 34 ∷ bytes ++ 34 ∷ [] ≡ name_text bytes
unfolding name_text
name_quoted bytes e = rw e refl

bytes_printable : (bytes : List ℕ) (t : Bool) → list_all is_quotable bytes ≡ t → IsBytes bytes → IsPrintable (Name bytes)
unfolding piece_text name_text
bytes_printable bytes true e h =
    record {
      shows =
          let q : IsQuoted (34 ∷ bytes ++ 34 ∷ []) bytes = (refl, e) in
          subst (λ (t : List ℕ). Shows t (variants.Literal bytes)) (name_quoted bytes e) (inl q);
      no_feed =
          rw e (quotes_feed bytes e);
    }
bytes_printable bytes false e h =
    record {
      shows =
          rw e
          (inr (record { digits = encode_lower bytes; parts = refl; value = decode_of-encode_lower bytes h }));
      no_feed =
          rw e (hex_feed bytes h);
    }

pub printable_bytes : (bytes : List ℕ) → IsBytes bytes → IsPrintable (Name bytes)
printable_bytes bytes h = bytes_printable bytes (list_all is_quotable bytes) refl h

pub printable_name : (bytes : List ℕ) → IsName bytes → IsPrintable (Name bytes)
printable_name bytes h = printable_bytes bytes (name_bytes bytes h.1)

abbrev pub AllPrintable : List Piece → Type 0
AllPrintable ps = AllByRecursion IsPrintable ps

pub printable_word : (w : List ℕ) → is_word w ≡ true → list_all not_feed w ≡ true → IsPrintable (Word w)
unfolding piece_text
printable_word w h f = record { shows = (refl, h); no_feed = f }

-- ---- lines

spaced_ends : (ps : List Piece) → ends_well (flat_map spaced ps) ≡ true
spaced_ends [] = refl
spaced_ends (p ∷ ps) = refl

spaced_has_values : (ps : List Piece) → AllPrintable ps → LineHasValues (flat_map spaced ps) (map piece_value ps)
spaced_has_values [] h = record { blanks = []; rest = []; parts = refl; blank = refl; silent = refl }
spaced_has_values (p ∷ ps) h = (
  flat_map spaced ps,
  record
      { blanks = 32 ∷ []; token = piece_text p; parts = refl; blank = refl; shows = h.0.shows; apart = spaced_ends ps },
  spaced_has_values ps h.1,
)

spaced_feed : (ps : List Piece) → AllPrintable ps → list_all not_feed (flat_map spaced ps) ≡ true
spaced_feed [] h = refl
spaced_feed (p ∷ ps) h =
    list_all-append not_feed (spaced p) (flat_map spaced ps) ∙ and_from _ _ h.0.no_feed (spaced_feed ps h.1)

-- a line without its line feed
abbrev pub line : List ℕ → List Piece → List ℕ
line w ps = w ++ flat_map spaced ps

pub line_has_values : (w : List ℕ) (ps : List Piece) → is_word w ≡ true → AllPrintable ps
    → LineHasValues (line w ps) (variants.Word w ∷ map piece_value ps)
line_has_values w ps h s = (
  flat_map spaced ps,
  record { blanks = []; token = w; parts = refl; blank = refl; shows = (refl, h); apart = spaced_ends ps },
  spaced_has_values ps s,
)

fed : (l rest : List ℕ) → list_all not_feed l ≡ true → lines_of (l ++ 10 ∷ rest) ≡ l ∷ lines_of rest
fed [] rest h = lines_yes 10 rest refl
fed (b ∷ l) rest h =
    let g = and_parts (not_feed b) (list_all not_feed l) h in
    lines_no b (l ++ 10 ∷ rest) (not_true (is_feed b) g.0) ∙ ap (onto b) (fed l rest g.1)

pub line_first : (w : List ℕ) (ps : List Piece) (rest : List ℕ) → list_all not_feed w ≡ true → AllPrintable ps
    → lines_of (line_text w ps ++ rest) ≡ line w ps ∷ lines_of rest
line_first w ps rest h s =
    ap (λ (t : List ℕ). lines_of (t ++ rest)) (line_spaced w ps)
    ∙ ap lines_of (append_assoc (line w ps) (10 ∷ []) rest)
    ∙ fed (line w ps) rest (list_all-append not_feed w (flat_map spaced ps) ∙ and_from _ _ h (spaced_feed ps s))
