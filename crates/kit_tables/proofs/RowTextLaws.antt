-- Tables that are written read as their zones.
use Rattle.std.proofs.Common.{◌≡◌, ◌≤◌, ◌<◌, ◌^◌, ◌+◌, ℕ, ℤ, pos, negsuc, suc, List, [], ◌∷◌, ◌++◌, length, map, drop}
use Rattle.std.proofs.Common.{codes, decimal, Bool, true, false, nat_le, nat_lt, Option, Some, None, Result, Ok, Err}
use Rattle.std.proofs.Common.{refl, sym, ap, ◌∙◌, arith, append_assoc, lt-ltb}
use Rattle.std.specs.Prelude.{◌||◌, ◌==◌, int_le, neg_ℤ}
use Rattle.std.specs.Fmt.{signed_decimal}
use Rattle.std.specs.List.{flat_map, list_all, position_or_len, AllByRecursion}
use Rattle.std.specs.Str.{IsUtf8, bytes_eq, all_scalars, encode_utf8_all}
use Rattle.std.proofs.lemmas.Bool.{and_parts, and_from}
use Rattle.std.proofs.lemmas.Bool.Decides.{nat_tests}
use Rattle.std.proofs.lemmas.List.{length-append, drop_at, take_at}
use Rattle.std.proofs.lemmas.List.Folds.{list_all-append}
use Rattle.std.proofs.lemmas.Slice.Eq.{bytes_eq-Decides}
use Rattle.std.proofs.lemmas.Str.{is_utf8-from_IsUtf8, encode_ascii}
use Rattle.generators.specs.declared.range.Range.{Range}
use Rattle.script_tokens.specs.declared.tokens.Token.TheVariants.{Quoted}
use Rattle.script_tokens.specs.declared.cursor.TokenValue.{TokenValue}
use Rattle.script_tokens.specs.declared.cursor.TokenValue.TheVariants.{Word}
use Rattle.script_tokens.specs.declared.printing.Piece.{Piece}
use Rattle.script_tokens.specs.declared.printing.Piece.TheVariants as piece
use Rattle.script_tokens.specs.Lines.{lines_of, onto, is_feed}
use Rattle.script_tokens.specs.Parsers.{Parsed, number, signed, range, ended, is_next, word, is_digit}
use Rattle.script_tokens.specs.Printing.{is_quotable, line_text, piece_text, spaced}
use Rattle.script_tokens.specs.TextForm.{LineHasValues, IsWithin}
use Rattle.script_tokens.specs.Tokens.{FirstToken, after_blanks, ends_well, is_quote, quoted_at, token_at}
use Rattle.script_tokens.specs.TokenValue.{is_plain, values_in}
use Rattle.script_tokens.proofs.TestLaws.{first_after, list_all_weaker, not_feed, not_feed_of, not_quote, not_true}
use Rattle.script_tokens.proofs.LexLaws.{lines_none, lines_no, lines_yes}
use Rattle.script_tokens.proofs.CompletenessLaws.{line_values, number_read, range_read, signed_read, word_read}
use Rattle.script_tokens.proofs.PieceLaws.{AllPrintable, all_digits, piece_value, printable_number}
use Rattle.script_tokens.proofs.PieceLaws.{printable_range, printable_signed, printable_word, range_text, writes}
use Rattle.script_tokens.proofs.PieceLaws.{writes_range, writes_signed}
use Rattle.script_tokens.proofs.PrintLaws.{line_spaced}
use Rattle.kit_tables.specs.declared.limits.TheConstants.{HIGHEST_KEY, HIGHEST_CLASS, FARTHEST_PAN, MOST_ROWS}
use Rattle.kit_tables.specs.declared.zone.KitZone.{KitZone}
use Rattle.kit_tables.specs.Rows.{KitResult, Row, TokenLine, at_least_one, file_of, path_of, row, row_after, rows_after}
use Rattle.kit_tables.specs.Rows.{rows_of, token_lines}
use Rattle.kit_tables.specs.RowTexts.{WrittenLine, ZoneLine, Comment, HasNoFeed, IsFile, IsKitClass, IsKitPan, IsKitRange}
use Rattle.kit_tables.specs.RowTexts.{IsKitRoot, IsKitZone, IsPan, IsWrittenLine, ReadsAs, class_pieces, line_of, listed}
use Rattle.kit_tables.specs.RowTexts.{pan_pieces, quoted_file, range_piece, root_pieces, table_text, zone_pieces, zones_in}
use Rattle.kit_tables.specs.ZoneParsers.{class, class_value, is_without_velocities, keys, pan, pan_value, range_with}
use Rattle.kit_tables.specs.ZoneParsers.{root, velocities, velocity_range, zone}

-- ---- paths

ascii : (b : ℕ) → is_quotable b ≡ true → b < 128
ascii b e =
    let plain = and_parts (is_plain b) (not_quote b) e in
    let high = (and_parts (nat_le 32 b) (nat_le b 126) plain.0).1 in
    grind (arith, nat_tests, high)

scalars_of : (file : List ℕ) → list_all is_quotable file ≡ true → all_scalars file ≡ true
scalars_of [] e = refl
scalars_of (b ∷ file) e =
    let h = and_parts (is_quotable b) (list_all is_quotable file) e in
    let small = ascii b h.0 in
    let below : nat_lt b 55296 ≡ true = lt-ltb b 55296 (omega (arith, small)) in
    rw (below, scalars_of file h.1) refl

encoded : (file : List ℕ) → list_all is_quotable file ≡ true → encode_utf8_all file ≡ file
encoded [] e = refl
encoded (b ∷ file) e =
    let h = and_parts (is_quotable b) (list_all is_quotable file) e in
    rw (encode_ascii b (ascii b h.0), encoded file h.1) refl

path_is : (file : List ℕ) → IsFile file → path_of file ≡ Some file
unfolding path_of
path_is [] h = let s = h.some in absurd (omega (arith, s))
path_is (b ∷ file) h =
    let e : list_all is_quotable (b ∷ file) ≡ true = h.quotable in
    let u : IsUtf8 (b ∷ file) = (b ∷ file, (scalars_of (b ∷ file) e, encoded (b ∷ file) e)) in
    rw (is_utf8-from_IsUtf8 (b ∷ file) u) refl

-- ---- lines

-- a line without its line feed
abbrev bare : WrittenLine → List ℕ
bare (ZoneLine file z) = quoted_file file ++ flat_map spaced (zone_pieces z)
bare (Comment pieces) = codes "#" ++ flat_map spaced pieces

range_printable : (r : Range) → IsKitRange r → AllPrintable (range_piece r ∷ [])
range_printable r h =
    let low = h.rising in
    let high = h.high in
    (printable_range r.low r.high (omega (arith, low, high)) (omega (arith, high)), tt)

root_printable : (o : Option ℕ) → IsKitRoot o → AllPrintable (root_pieces o)
root_printable None h = tt
root_printable (Some key) h = (printable_word (codes "root") refl refl, (printable_number key (omega (arith, h)), tt))

pan_within : (pan : ℤ) → IsPan pan → IsWithin FARTHEST_PAN pan
pan_within (pos n) h = h
pan_within (negsuc n) h = omega (arith, h)

pan_printable : (o : Option ℤ) → IsKitPan o → AllPrintable (pan_pieces o)
pan_printable None h = tt
pan_printable (Some pan) h = (
  printable_word (codes "pan") refl refl,
  (printable_signed FARTHEST_PAN pan (pan_within pan h) (omega arith), tt),
)

class_printable : (o : Option ℕ) → IsKitClass o → AllPrintable (class_pieces o)
class_printable None h = tt
class_printable (Some class) h =
    let high = h.1 in
    (printable_word (codes "class") refl refl, (printable_number class (omega (arith, high)), tt))

both_printable : (ps qs : List Piece) → AllPrintable ps → AllPrintable qs → AllPrintable (ps ++ qs)
both_printable [] qs h k = k
both_printable (p ∷ ps) qs h k = (h.0, both_printable ps qs h.1 k)

zone_printable : (z : KitZone) → IsKitZone z → AllPrintable (zone_pieces z)
zone_printable z h = (
  (range_printable z.keys h.keys).0,
  (
    (range_printable z.velocities h.velocities).0,
    both_printable (root_pieces z.root) (pan_pieces z.pan ++ class_pieces z.class) (root_printable z.root h.root)
        (both_printable (pan_pieces z.pan) (class_pieces z.class) (pan_printable z.pan h.pan)
        (class_printable z.class h.class)),
  ),
)

pub pieces_feed : (ps : List Piece) → AllPrintable ps → list_all not_feed (flat_map spaced ps) ≡ true
pieces_feed [] h = refl
pieces_feed (p ∷ ps) h =
    list_all-append not_feed (spaced p) (flat_map spaced ps) ∙ and_from _ _ h.0.no_feed (pieces_feed ps h.1)

file_feed : (file : List ℕ) → IsFile file → list_all not_feed (quoted_file file) ≡ true
file_feed file h =
    list_all-append not_feed file (34 ∷ [])
    ∙ and_from _ _ (list_all_weaker is_quotable not_feed (not_feed_of is_quotable refl) file h.quotable) refl

bare_feed : (l : WrittenLine) → IsWrittenLine l → list_all not_feed (bare l) ≡ true
bare_feed (ZoneLine file z) h =
    list_all-append not_feed (quoted_file file) (flat_map spaced (zone_pieces z))
    ∙ and_from _ _ (file_feed file h.0) (pieces_feed (zone_pieces z) (zone_printable z h.1))
bare_feed (Comment pieces) h = h

with_feed : (l : WrittenLine) → line_of l ≡ bare l ++ 10 ∷ []
with_feed (ZoneLine file z) = line_spaced (quoted_file file) (zone_pieces z)
with_feed (Comment pieces) = line_spaced (codes "#") pieces

fed : (l rest : List ℕ) → list_all not_feed l ≡ true → lines_of (l ++ 10 ∷ rest) ≡ l ∷ lines_of rest
fed [] rest h = lines_yes 10 rest refl
fed (b ∷ l) rest h =
    let g = and_parts (not_feed b) (list_all not_feed l) h in
    lines_no b (l ++ 10 ∷ rest) (not_true (is_feed b) g.0) ∙ ap (onto b) (fed l rest g.1)

lines_are : (ls : List WrittenLine) → AllByRecursion IsWrittenLine ls → lines_of (table_text ls) ≡ map bare ls
lines_are [] h = lines_none
lines_are (l ∷ ls) h =
    ap (λ (t : List ℕ). lines_of (t ++ table_text ls)) (with_feed l)
    ∙ ap lines_of (append_assoc (bare l) (10 ∷ []) (table_text ls))
    ∙ fed (bare l) (table_text ls) (bare_feed l h.0)
    ∙ ap (λ (rest : List (List ℕ)). bare l ∷ rest) (lines_are ls h.1)

-- ---- the zone of a line

spaced_ends : (ps : List Piece) → ends_well (flat_map spaced ps) ≡ true
spaced_ends [] = refl
spaced_ends (p ∷ ps) = refl

pieces_have_values : (ps : List Piece) → AllPrintable ps → LineHasValues (flat_map spaced ps) (map piece_value ps)
pieces_have_values [] h = record { blanks = []; rest = []; parts = refl; blank = refl; silent = refl }
pieces_have_values (p ∷ ps) h = (
  flat_map spaced ps,
  record
      { blanks = 32 ∷ []; token = piece_text p; parts = refl; blank = refl; shows = h.0.shows; apart = spaced_ends ps },
  pieces_have_values ps h.1,
)

values_printed : (ps : List Piece) → AllPrintable ps → values_in (flat_map spaced ps) ≡ map piece_value ps
values_printed ps h =
    line_values (map piece_value ps) (flat_map spaced ps) (pieces_have_values ps h)

range_is : (r : Range) → IsKitRange r → range_with (r.low, r.high) ≡ Some r
unfolding range_with
range_is r h =
    let low = h.rising in
    let high = h.high in
    let first : nat_le r.low r.high ≡ true = grind (arith, nat_tests, low) in
    let second : nat_le r.high 127 ≡ true = grind (arith, nat_tests, high) in
    rw (first, second) refl

ends_read : (r : Range) (rest : List TokenValue) → IsKitRange r
    → range (piece_value (range_piece r) ∷ rest) ≡ Ok (record { value = (r.low, r.high); rest = rest })
ends_read r rest h =
    let low = h.rising in
    let high = h.high in
    range_read r.low r.high (range_text r.low r.high) rest
    (writes_range r.low r.high (omega (arith, low, high)) (omega (arith, high)))

keys_read : (r : Range) (rest : List TokenValue) → IsKitRange r
    → keys (piece_value (range_piece r) ∷ rest) ≡ Ok (record { value = r; rest = rest })
unfolding keys
keys_read r rest h = rw (ends_read r rest h, range_is r h) refl

-- a digit or a dot
abbrev in_range : ℕ → Bool
in_range b = is_digit b || b == 46

digit_in_range : (b : ℕ) → is_digit b ≡ true → in_range b ≡ true
digit_in_range b e = rw e refl

digits_in_range : (n : ℕ) → n < 2 ^ 32 → list_all in_range (decimal n) ≡ true
digits_in_range n h = list_all_weaker is_digit in_range digit_in_range (decimal n) (all_digits n h)

range_in_range : (low high : ℕ) → low < 2 ^ 32 → high < 2 ^ 32 → list_all in_range (range_text low high) ≡ true
range_in_range low high h k =
    list_all-append in_range (decimal low) (46 ∷ 46 ∷ decimal high)
    ∙ and_from _ _ (digits_in_range low h) (digits_in_range high k)

-- a range is none of the words that may follow
no_word : (r : Range) (w : List ℕ) (rest : List TokenValue) → IsKitRange r → list_all in_range w ≡ false
    → is_next w (piece_value (range_piece r) ∷ rest) ≡ false
no_word r w rest h e = from (bytes_eq (range_text r.low r.high) w) refl
  where
    from : (t : Bool) → bytes_eq (range_text r.low r.high) w ≡ t → t ≡ false
    from false f = refl
    from true f =
        let low = h.rising in
        let high = h.high in
        let same : range_text r.low r.high ≡ w = (bytes_eq-Decides (range_text r.low r.high) w).0 f in
        let all = range_in_range r.low r.high (omega (arith, low, high)) (omega (arith, high)) in
        let never = sym (ap (list_all in_range) same ∙ e) ∙ all in
        cc

velocities_read : (r : Range) (rest : List TokenValue) → IsKitRange r
    → velocities (piece_value (range_piece r) ∷ rest) ≡ Ok (record { value = r; rest = rest })
unfolding velocities velocity_range
velocities_read r rest h =
    let a = no_word r (codes "root") rest h refl in
    let b = no_word r (codes "pan") rest h refl in
    let c = no_word r (codes "class") rest h refl in
    rw (a, b, c, ends_read r rest h, range_is r h) refl

-- the tokens of pieces
abbrev tokens : List Piece → List TokenValue
tokens ps = map piece_value ps

root_read : (o : Option ℕ) (rest : List TokenValue) → IsKitRoot o → is_next (codes "root") rest ≡ false
    → root (tokens (root_pieces o) ++ rest) ≡ Ok (record { value = o; rest = rest })
unfolding root word
root_read None rest h e = rw e refl
root_read (Some key) rest h e =
    rw (number_read HIGHEST_KEY key (decimal key) rest (writes HIGHEST_KEY key h (omega arith))) refl

pan_checked : (pan : ℤ) → IsPan pan → int_le (neg_ℤ (pos FARTHEST_PAN)) pan ≡ true
pan_checked (pos n) h = refl
pan_checked (negsuc n) h = grind (arith, nat_tests, h)

pan_read : (o : Option ℤ) (rest : List TokenValue) → IsKitPan o → is_next (codes "pan") rest ≡ false
    → pan (tokens (pan_pieces o) ++ rest) ≡ Ok (record { value = o; rest = rest })
unfolding pan pan_value word
pan_read None rest h e = rw e refl
pan_read (Some p) rest h e =
    rw (
      signed_read FARTHEST_PAN p (signed_decimal p) rest (writes_signed FARTHEST_PAN p (pan_within p h) (omega arith)),
      pan_checked p h,
    ) refl

class_read : (o : Option ℕ) → IsKitClass o → class (tokens (class_pieces o)) ≡ Ok (record { value = o; rest = [] })
unfolding class class_value word
class_read None h = refl
class_read (Some n) h =
    let low = h.0 in
    let some : nat_lt 0 n ≡ true = grind (arith, nat_tests, low) in
    rw (number_read HIGHEST_CLASS n (decimal n) [] (writes HIGHEST_CLASS n h.1 (omega arith)), some) refl

-- no root key comes after it, and no pan after that
no_root : (p : Option ℤ) (c : Option ℕ) → is_next (codes "root") (tokens (pan_pieces p) ++ tokens (class_pieces c)) ≡ false
no_root None None = refl
no_root None (Some n) = refl
no_root (Some p) c = refl

no_pan : (c : Option ℕ) → is_next (codes "pan") (tokens (class_pieces c)) ≡ false
no_pan None = refl
no_pan (Some n) = refl

map_both : (ps qs : List Piece) → tokens (ps ++ qs) ≡ tokens ps ++ tokens qs
map_both [] qs = refl
map_both (p ∷ ps) qs = ap (λ (ts : List TokenValue). piece_value p ∷ ts) (map_both ps qs)

zone_tokens : (z : KitZone)
    → tokens (zone_pieces z)
    ≡ piece_value (range_piece z.keys) ∷ piece_value (range_piece z.velocities)
    ∷ tokens (root_pieces z.root) ++ (tokens (pan_pieces z.pan) ++ tokens (class_pieces z.class))
zone_tokens z =
    ap (λ (ts : List TokenValue). piece_value (range_piece z.keys) ∷ piece_value (range_piece z.velocities) ∷ ts)
    (map_both (root_pieces z.root) (pan_pieces z.pan ++ class_pieces z.class)
    ∙ ap (λ (ts : List TokenValue). tokens (root_pieces z.root) ++ ts) (map_both (pan_pieces z.pan) (class_pieces z.class)))

zone_read : (z : KitZone) → IsKitZone z → zone (tokens (zone_pieces z)) ≡ Ok (record { value = z; rest = [] })
unfolding zone ended
zone_read z h =
    let rest = tokens (pan_pieces z.pan) ++ tokens (class_pieces z.class) in
    let after = piece_value (range_piece z.velocities) ∷ tokens (root_pieces z.root) ++ rest in
    let k = keys_read z.keys after h.keys in
    let v = velocities_read z.velocities (tokens (root_pieces z.root) ++ rest) h.velocities in
    let r = root_read z.root rest h.root (no_root z.pan z.class) in
    let p = pan_read z.pan (tokens (class_pieces z.class)) h.pan (no_pan z.class) in
    let c = class_read z.class h.class in
    rw (zone_tokens z, k, v, r, p, c) refl

-- ---- the row of a line

not_quotes : (b : ℕ) → is_quotable b ≡ true → not_quote b ≡ true
not_quotes b e = (and_parts _ (not_quote b) e).1

quoted_first : (file rest : List ℕ) → list_all is_quotable file ≡ true → ends_well rest ≡ true
    → quoted_at (file ++ 34 ∷ rest) ≡ record { token = Quoted file; after = rest }
unfolding quoted_at
quoted_first file rest h e =
    let k = first_after is_quote file 34 rest (list_all_weaker is_quotable not_quote not_quotes file h) refl in
    let len : length file < length (file ++ 34 ∷ rest) = omega (arith, length-append file (34 ∷ rest)) in
    let t : nat_lt (length file) (length (file ++ 34 ∷ rest)) ≡ true = lt-ltb _ _ len in
    let grouped : file ++ 34 ∷ rest ≡ (file ++ 34 ∷ []) ++ rest = sym (append_assoc file (34 ∷ []) rest) in
    let d : drop (length file + 1) (file ++ 34 ∷ rest) ≡ rest =
    ap (drop (length file + 1)) grouped ∙ drop_at (file ++ 34 ∷ []) rest (length file + 1) (length-append file (34 ∷ [])) in
    rw (k, t, d, e, take_at file (34 ∷ rest) (length file) refl) refl

-- the first token of a line with a zone
abbrev first_of : List ℕ → KitZone → FirstToken
first_of file z = record { token = Quoted file; after = flat_map spaced (zone_pieces z) }

zone_begins : (file : List ℕ) (z : KitZone) → IsFile file
    → token_at (after_blanks (bare (ZoneLine file z))) ≡ Some (first_of file z)
unfolding token_at after_blanks
zone_begins file z h =
    let grouped = append_assoc file (34 ∷ []) (flat_map spaced (zone_pieces z)) in
    let read = quoted_first file (flat_map spaced (zone_pieces z)) h.quotable refl in
    ap (λ (t : List ℕ). Some (quoted_at t)) grouped ∙ ap (λ (f : FirstToken). Some f) read

comment_begins : (pieces : List Piece) → token_at (after_blanks (bare (Comment pieces))) ≡ None
unfolding token_at after_blanks
comment_begins pieces = refl

abbrev row_for : ℕ → List ℕ → KitZone → Row
row_for n file z = record { line = n; file = file; zone = z }

row_is : (n : ℕ) (file : List ℕ) (z : KitZone) → IsFile file → IsKitZone z
    → row n (first_of file z) ≡ Some (row_for n file z)
unfolding row file_of
row_is n file z f h =
    rw (path_is file f, values_printed (zone_pieces z) (zone_printable z h), zone_read z h) refl

-- ---- all lines

-- rows that are read, which say this
record AreRead (r : KitResult (List Row)) (zones : List (List ℕ × KitZone)) : Type 0 where
  rows : List Row
  read : r ≡ Ok rows
  same : map listed rows ≡ zones

room : (k n : ℕ) (x : Row) → k < MOST_ROWS → row_after k n (Some x) ≡ Ok x
room k n x h = let e : nat_le MOST_ROWS k ≡ false = grind (arith, nat_tests, h) in rw e refl

rows_read : (k m : ℕ) (ls : List WrittenLine) → AllByRecursion IsWrittenLine ls → k + length (zones_in ls) ≤ MOST_ROWS
    → AreRead (rows_after k (token_lines m (map bare ls))) (zones_in ls)
unfolding rows_after token_lines
rows_read k m [] h few = record { rows = []; read = refl; same = refl }
rows_read k m (Comment pieces ∷ ls) h few =
    let rest = rows_read k (suc m) ls h.1 few in
    record { rows = rest.rows; read = rw (comment_begins pieces) rest.read; same = rest.same }
rows_read k m (ZoneLine file z ∷ ls) h few =
    let rest = rows_read (suc k) (suc m) ls h.1 (omega (arith, few)) in
    let begins = zone_begins file z h.0.0 in
    let is = row_is m file z h.0.0 h.0.1 in
    let here = room k m (row_for m file z) (omega (arith, few)) in
    record {
      rows = row_for m file z ∷ rest.rows;
      read = rw (begins, is, here, rest.read) refl;
      same = ap (λ (zones : List (List ℕ × KitZone)). (file, z) ∷ zones) rest.same;
    }

reads_as : (rows : List Row) (zones : List (List ℕ × KitZone)) → map listed rows ≡ zones
    → ReadsAs (at_least_one rows) zones
reads_as [] [] e = refl
reads_as (r ∷ rows) [] e = cc
reads_as [] (z ∷ zones) e = cc
reads_as (r ∷ rows) (z ∷ zones) e = (r ∷ rows, refl, e)

pub tables_read_back : (lines : List WrittenLine) → AllByRecursion IsWrittenLine lines
    → length (zones_in lines) ≤ MOST_ROWS → ReadsAs (rows_of (table_text lines)) (zones_in lines)
unfolding rows_of
tables_read_back lines h few =
    let read = rows_read 0 1 lines h (omega (arith, few)) in
    rw (lines_are lines h, read.read) (reads_as read.rows (zones_in lines) read.same)
