-- Completeness of reading: values that satisfy the grammar of a text are read from it.
use Rattle.std.proofs.Common.{◌≡◌, ◌<◌, ◌+◌, ℕ, suc, true, false, eqb, eqb-true, ltb, not, List, [], ◌∷◌, ◌++◌}
use Rattle.std.proofs.Common.{length, take, drop, map, Option, Some, None, Ok, refl, sym, ap, ◌∙◌, append_assoc}
use Rattle.std.proofs.Common.{arith, inl, inr, ℤ}
use Rattle.std.specs.Prelude.{nat_lt, nat_le, ◌&&◌}
use Rattle.std.specs.List.{list_all, prefix_len, AllByRecursion}
use Rattle.std.proofs.lemmas.Bool.{lt-ltb, le-leb, and_parts}
use Rattle.std.proofs.lemmas.List.{take_at, drop_at, length-append}
use Rattle.std.proofs.lemmas.List.Sums.{list_all-from_AllPass}
use Rattle.hex.specs.Hex.{decode_of, is_hex_digit}
use Rattle.hex.proofs.HexLemmas.{decode_of-ok}
use Rattle.sf_base.specs.Names.{IsName}
use Rattle.script_tokens.specs.declared.tokens.Token.TheVariants.{Plain, Quoted}
use Rattle.script_tokens.specs.declared.cursor.TokenValue.{TokenValue}
use Rattle.script_tokens.specs.declared.cursor.TokenValue.TheVariants.{Word, Literal, Malformed}
use Rattle.script_tokens.specs.Tokens.{is_blank, is_quote, after_blanks, ends_well, FirstToken, quoted_at, plain_at}
use Rattle.script_tokens.specs.Tokens.{token_at, and_tokens_after, tokens_of}
use Rattle.script_tokens.specs.TokenValue.{is_plain, is_hex, decoded, token_value, values_in}
use Rattle.script_tokens.specs.Parsers.{is_digit, word, literal, number, number_of, signed, signed_of, dots_at}
use Rattle.script_tokens.specs.Parsers.{number_word, numeral, range, range_of, name_of, name}
use Rattle.script_tokens.specs.Pool.{ListOrFault, and_then, gather, literal_of, literals_of}
use Rattle.script_tokens.specs.Printing.{is_quotable}
use Rattle.script_tokens.specs.TextForm.{not_blank, is_word, Shows, is_silent, HasNoTokens, LineHasValues, Writes}
use Rattle.script_tokens.specs.TextForm.{WritesSigned, WritesRange}
use Rattle.script_tokens.proofs.TestLaws.{not_true, differs, list_all_weaker, not_quote, not_blank_of, first_after}
use Rattle.script_tokens.proofs.TestLaws.{blank_after, no_dots}
use Rattle.script_tokens.proofs.LexLaws.{tokens_once, tokens_end, tokens_front, tokens_nothing}
use Rattle.script_tokens.proofs.NameLaws.{name_passes}
use Rattle.script_tokens.proofs.GatherLaws.{gather_on, gather_none, literals_none, literals_on}

-- ---- blanks

stays : (b : ℕ) (line : List ℕ) → is_blank b ≡ false → after_blanks (b ∷ line) ≡ b ∷ line
unfolding after_blanks
stays b line e = rw e refl

blank_gone : (b : ℕ) (line : List ℕ) → is_blank b ≡ true → after_blanks (b ∷ line) ≡ after_blanks line
unfolding after_blanks
blank_gone b line e =
    let n : 1 + prefix_len is_blank line ≡ suc (prefix_len is_blank line) = omega arith in rw (e, n) refl

blanks_gone : (blanks line : List ℕ) → list_all is_blank blanks ≡ true
    → after_blanks (blanks ++ line) ≡ after_blanks line
blanks_gone [] line h = refl
blanks_gone (b ∷ blanks) line h =
    let g = and_parts (is_blank b) (list_all is_blank blanks) h in
    blank_gone b (blanks ++ line) g.0 ∙ blanks_gone blanks line g.1

values_after_blanks : (blanks line : List ℕ) → list_all is_blank blanks ≡ true → values_in (blanks ++ line) ≡ values_in line
values_after_blanks blanks line h =
    ap (map token_value)
    (tokens_once (blanks ++ line)
    ∙ ap (λ (l : List ℕ). and_tokens_after (token_at l) tokens_of) (blanks_gone blanks line h)
    ∙ sym (tokens_once line))

values_of_first : (b : ℕ) (line : List ℕ) (f : FirstToken) → is_blank b ≡ false → token_at (b ∷ line) ≡ Some f
    → values_in (b ∷ line) ≡ token_value f.token ∷ values_in f.after
values_of_first b line f e t = ap (map token_value) (tokens_front (b ∷ line) f (ap token_at (stays b line e) ∙ t))

-- ---- words and hex digits

plain_again : (b : ℕ) (w rest : List ℕ) → list_all not_blank w ≡ true → ends_well rest ≡ true
    → plain_at b (w ++ rest) ≡ record { token = Plain (b ∷ w); after = rest }
unfolding plain_at
plain_again b w rest h e =
    let k = blank_after w rest h e in
    rw (k, take_at w rest (length w) refl, drop_at w rest (length w) refl) refl

plain_front : (b : ℕ) (line : List ℕ) → eqb b 35 ≡ false → is_quote b ≡ false
    → token_at (b ∷ line) ≡ Some (plain_at b line)
unfolding token_at
plain_front b line e f = rw (e, f) refl

values_of_plain : (b : ℕ) (w rest : List ℕ) → is_blank b ≡ false → eqb b 35 ≡ false → is_quote b ≡ false
    → list_all not_blank w ≡ true → ends_well rest ≡ true
    → values_in (b ∷ (w ++ rest)) ≡ token_value (Plain (b ∷ w)) ∷ values_in rest
values_of_plain b w rest x y z h e =
    values_of_first b (w ++ rest) (record { token = Plain (b ∷ w); after = rest }) x
    (plain_front b (w ++ rest) y z ∙ ap (λ (f : FirstToken). Some f) (plain_again b w rest h e))

value_of_word : (w : List ℕ) → is_hex w ≡ false → token_value (Plain w) ≡ Word w
unfolding token_value
value_of_word w e = rw e refl

value_of_digits : (digits bytes : List ℕ) → decode_of digits ≡ Ok bytes → token_value (Plain (120 ∷ digits)) ≡ Literal bytes
unfolding token_value
value_of_digits digits bytes e = ap decoded e

word_again : (w rest : List ℕ) → is_word w ≡ true → ends_well rest ≡ true → values_in (w ++ rest) ≡ Word w ∷ values_in rest
word_again [] rest h e = cc
word_again (b ∷ w) rest h e =
    let k = and_parts (not (eqb b 35) && not (is_quote b) && not (eqb b 120) && not_blank b) (list_all not_blank w) h in
    let l = and_parts (not (eqb b 35) && not (is_quote b) && not (eqb b 120)) (not_blank b) k.0 in
    let m = and_parts (not (eqb b 35) && not (is_quote b)) (not (eqb b 120)) l.0 in
    let n = and_parts (not (eqb b 35)) (not (is_quote b)) m.0 in
    values_of_plain b w rest (not_true (is_blank b) l.1) (not_true (eqb b 35) n.0) (not_true (is_quote b) n.1) k.1 e
    ∙ ap (λ (s : TokenValue). s ∷ values_in rest) (value_of_word (b ∷ w) (not_true (eqb b 120) m.1))

digits_again : (digits bytes rest : List ℕ) → decode_of digits ≡ Ok bytes → ends_well rest ≡ true
    → values_in (120 ∷ (digits ++ rest)) ≡ Literal bytes ∷ values_in rest
digits_again digits bytes rest d e =
    let all : list_all is_hex_digit digits ≡ true =
    list_all-from_AllPass is_hex_digit digits (decode_of-ok digits bytes d).1 in
    values_of_plain 120 digits rest refl refl refl
    (list_all_weaker is_hex_digit not_blank (not_blank_of is_hex_digit refl refl refl) digits all) e
    ∙ ap (λ (s : TokenValue). s ∷ values_in rest) (value_of_digits digits bytes d)

-- ---- quotes

quoted_again : (i rest : List ℕ) → list_all not_quote i ≡ true → ends_well rest ≡ true
    → quoted_at (i ++ 34 ∷ rest) ≡ record { token = Quoted i; after = rest }
unfolding quoted_at
quoted_again i rest h e =
    let k = first_after is_quote i 34 rest h refl in
    let len : length i < length (i ++ 34 ∷ rest) = omega (arith, length-append i (34 ∷ rest)) in
    let t : ltb (length i) (length (i ++ 34 ∷ rest)) ≡ true = lt-ltb _ _ len in
    let grouped : i ++ 34 ∷ rest ≡ (i ++ 34 ∷ []) ++ rest = sym (append_assoc i (34 ∷ []) rest) in
    let d : drop (length i + 1) (i ++ 34 ∷ rest) ≡ rest =
    ap (drop (length i + 1)) grouped ∙ drop_at (i ++ 34 ∷ []) rest (length i + 1) (length-append i (34 ∷ [])) in
    rw (k, t, d, e, take_at i (34 ∷ rest) (length i) refl) refl

quoted_front : (line : List ℕ) → token_at (34 ∷ line) ≡ Some (quoted_at line)
unfolding token_at
quoted_front line = refl

open_plain : (b : ℕ) → is_quotable b ≡ true → is_plain b ≡ true
open_plain b e = (and_parts (is_plain b) (not (is_quote b)) e).0

open_quote : (b : ℕ) → is_quotable b ≡ true → not_quote b ≡ true
open_quote b e = (and_parts (is_plain b) (not (is_quote b)) e).1

value_of_quoted : (i : List ℕ) → list_all is_plain i ≡ true → token_value (Quoted i) ≡ Literal i
unfolding token_value
value_of_quoted i e = rw e refl

quotes_again : (bytes rest : List ℕ) → list_all is_quotable bytes ≡ true → ends_well rest ≡ true
    → values_in ((34 ∷ bytes ++ 34 ∷ []) ++ rest) ≡ Literal bytes ∷ values_in rest
quotes_again bytes rest h e =
    ap values_in (ap (λ (l : List ℕ). 34 ∷ l) (append_assoc bytes (34 ∷ []) rest))
    ∙ values_of_first 34 (bytes ++ 34 ∷ rest) (record { token = Quoted bytes; after = rest }) refl
    (quoted_front (bytes ++ 34 ∷ rest)
    ∙ ap (λ (f : FirstToken). Some f)
    (quoted_again bytes rest (list_all_weaker is_quotable not_quote open_quote bytes h) e))
    ∙ ap (λ (s : TokenValue). s ∷ values_in rest) (value_of_quoted bytes (list_all_weaker is_quotable is_plain open_plain bytes h))

-- ---- a line

shown : (token after : List ℕ) (s : TokenValue) → Shows token s → ends_well after ≡ true
    → values_in (token ++ after) ≡ s ∷ values_in after
shown token after (Word w) h e = ap (λ (t : List ℕ). values_in (t ++ after)) h.0 ∙ word_again w after h.1 e
shown token after (Literal bytes) (inl q) e =
    ap (λ (t : List ℕ). values_in (t ++ after)) q.0 ∙ quotes_again bytes after q.1 e
shown token after (Literal bytes) (inr d) e =
    ap (λ (t : List ℕ). values_in (t ++ after)) d.parts ∙ digits_again d.digits bytes after d.value e
shown token after Malformed h e = absurd h

silent_end : (b : ℕ) (line : List ℕ) → eqb b 35 ≡ true → token_at (b ∷ line) ≡ None
unfolding token_at
silent_end b line e = rw e refl

comment_stays : (b : ℕ) (line : List ℕ) → eqb b 35 ≡ true → after_blanks (b ∷ line) ≡ b ∷ line
comment_stays b line e = let n = eqb-true b 35 e in rw n (stays 35 line refl)

no_values_at_end : (rest : List ℕ) → is_silent rest ≡ true → values_in rest ≡ []
no_values_at_end [] e = ap (map token_value) tokens_nothing
no_values_at_end (b ∷ line) e =
    ap (map token_value) (tokens_end (b ∷ line) (ap token_at (comment_stays b line e) ∙ silent_end b line e))

no_values : (line : List ℕ) → HasNoTokens line → values_in line ≡ []
no_values line h = ap values_in h.parts ∙ values_after_blanks h.blanks h.rest h.blank ∙ no_values_at_end h.rest h.silent

pub line_values : (token_values : List TokenValue) (line : List ℕ) → LineHasValues line token_values → values_in line ≡ token_values
line_values [] line h = no_values line h
line_values (s ∷ token_values) line h =
    let b = h.1 in
    ap values_in b.parts
    ∙ values_after_blanks b.blanks (b.token ++ h.0) b.blank
    ∙ shown b.token h.0 s b.shows b.apart
    ∙ ap (λ (l : List TokenValue). s ∷ l) (line_values token_values h.0 h.2)

-- ---- parts

pub number_again : (limit n : ℕ) (w : List ℕ) → Writes limit w n → number_of limit w ≡ Some n
unfolding number_of
number_again limit n w h =
    let some : nat_lt 0 (length w) ≡ true = lt-ltb 0 (length w) h.some in
    let few : nat_le (length w) 10 ≡ true = le-leb (length w) 10 h.few in
    let within : nat_le n limit ≡ true = le-leb n limit h.within in
    rw (some, few, h.digits, h.value, within) refl

numeral_read : {X : Type 0} (f : List ℕ → Option X) (x : X) (w : List ℕ) (line : List TokenValue) → f w ≡ Some x
    → numeral f (Word w ∷ line) ≡ Ok (record { value = x; rest = line })
unfolding number_word
numeral_read f x w line e = rw e refl

pub number_read : (limit n : ℕ) (w : List ℕ) (line : List TokenValue) → Writes limit w n
    → number limit (Word w ∷ line) ≡ Ok (record { value = n; rest = line })
unfolding number
number_read limit n w line h = numeral_read (number_of limit) n w line (number_again limit n w h)

signed_again : (limit : ℕ) (z : ℤ) (w : List ℕ) → WritesSigned limit w z → signed_of limit w ≡ Some z
unfolding signed_of
signed_again limit z w (inl h) =
    let k = number_again (limit + 1) h.number h.digits h.writes in rw (h.parts, k, h.value) refl
signed_again limit z [] (inr h) = absurd (let some = h.writes.some in omega (arith, some))
signed_again limit z (b ∷ w) (inr h) =
    let k = number_again limit h.number (b ∷ w) h.writes in
    let digit : is_digit b ≡ true = (and_parts (is_digit b) (list_all is_digit w) h.writes.digits).0 in
    let minus : eqb b 45 ≡ false = differs is_digit 45 b refl digit in
    rw (minus, k, h.value) refl

pub signed_read : (limit : ℕ) (z : ℤ) (w : List ℕ) (line : List TokenValue) → WritesSigned limit w z
    → signed limit (Word w ∷ line) ≡ Ok (record { value = z; rest = line })
unfolding signed
signed_read limit z w line h = numeral_read (signed_of limit) z w line (signed_again limit z w h)

-- digits contain no `..`, so the first `..` is after them
dots_after : (w rest : List ℕ) → list_all is_digit w ≡ true → dots_at (w ++ 46 ∷ 46 ∷ rest) ≡ length w
dots_after [] rest h = refl
dots_after (b ∷ w) rest h =
    let g = and_parts (is_digit b) (list_all is_digit w) h in
    no_dots b (w ++ 46 ∷ 46 ∷ rest) (differs is_digit 46 b refl g.0) ∙ ap suc (dots_after w rest g.1)

range_again : (low high : ℕ) (w : List ℕ) → WritesRange w low high → range_of w ≡ Some (low, high)
unfolding range_of
range_again low high w h =
    let at = dots_after h.before h.bytes_after h.writes_low.digits in
    let before : take (length h.before) (h.before ++ 46 ∷ 46 ∷ h.bytes_after) ≡ h.before =
    take_at h.before (46 ∷ 46 ∷ h.bytes_after) (length h.before) refl in
    let grouped : h.before ++ 46 ∷ 46 ∷ h.bytes_after ≡ (h.before ++ 46 ∷ 46 ∷ []) ++ h.bytes_after =
    sym (append_assoc h.before (46 ∷ 46 ∷ []) h.bytes_after) in
    let bytes_after : drop (length h.before + 2) (h.before ++ 46 ∷ 46 ∷ h.bytes_after) ≡ h.bytes_after =
    ap (drop (length h.before + 2)) grouped
    ∙ drop_at (h.before ++ 46 ∷ 46 ∷ []) h.bytes_after (length h.before + 2)
    (length-append h.before (46 ∷ 46 ∷ [])) in
    rw (
      h.parts,
      at,
      before,
      bytes_after,
      number_again 255 low h.before h.writes_low,
      number_again 255 high h.bytes_after h.writes_high,
    )
    refl

pub range_read : (low high : ℕ) (w : List ℕ) (line : List TokenValue) → WritesRange w low high
    → range (Word w ∷ line) ≡ Ok (record { value = (low, high); rest = line })
unfolding range
range_read low high w line h = numeral_read range_of (low, high) w line (range_again low high w h)

pub literal_read : (bytes : List ℕ) (line : List TokenValue)
    → literal (Literal bytes ∷ line) ≡ Ok (record { value = bytes; rest = line })
unfolding literal
literal_read bytes line = refl

pub word_read : (w : List ℕ) (line : List TokenValue) → word (Word w ∷ line) ≡ Ok (record { value = w; rest = line })
unfolding word
word_read w line = refl

pub name_read : (n : List ℕ) (line : List TokenValue) → IsName n
    → name (Literal n ∷ line) ≡ Ok (record { value = n; rest = line })
unfolding name literal name_of
name_read n line h = let k = name_passes n h in rw k refl

-- ---- lines

-- the lines have a list of values
abbrev pub Grows : {X : Type 0} → ListOrFault X → Type 0
Grows {X} r = (xs : List X) × (r ≡ Ok xs)

literal_grows : (n : ℕ) (token : List ℕ) (s : TokenValue) (pool : List ℕ) → Shows token s → Grows (literal_of n s pool)
unfolding literal_of
literal_grows n token (Word w) pool h = (pool, refl)
literal_grows n token (Literal bytes) pool h = (pool ++ bytes, refl)
literal_grows n token Malformed pool h = absurd h

literals_grow : (n : ℕ) (token_values : List TokenValue) (line pool : List ℕ) → LineHasValues line token_values → Grows (literals_of n token_values pool)
literals_grow n [] line pool h = (pool, literals_none n pool)
literals_grow n (s ∷ token_values) line pool h =
    let a = literal_grows n h.1.token s pool h.1.shows in
    let b = literals_grow n token_values h.0 a.0 h.2 in
    (b.0, literals_on n s token_values pool ∙ ap (λ (r : ListOrFault ℕ). and_then r (λ more. literals_of n token_values more)) a.1 ∙ b.1)

-- a line has values, or none
abbrev pub HasLineValues : List ℕ → Type 0
HasLineValues line = (token_values : List TokenValue) × LineHasValues line token_values

pub lines_grow : (n : ℕ) (ls : List (List ℕ)) (pool : List ℕ) → AllByRecursion HasLineValues ls
    → Grows (gather literals_of n (map values_in ls) pool)
lines_grow n [] pool h = (pool, gather_none literals_of n pool)
lines_grow n (l ∷ ls) pool h =
    let a = literals_grow n h.0.0 l pool h.0.1 in
    let b = lines_grow (suc n) ls a.0 h.1 in (
      b.0,
      gather_on literals_of n (values_in l) (map values_in ls) pool
          ∙ ap
          (λ (s : List TokenValue).
          and_then (literals_of n s pool) (λ more. gather literals_of (suc n) (map values_in ls) more))
          (line_values h.0.0 l h.0.1)
          ∙ ap (λ (r : ListOrFault ℕ). and_then r (λ more. gather literals_of (suc n) (map values_in ls) more)) a.1
          ∙ b.1,
    )
