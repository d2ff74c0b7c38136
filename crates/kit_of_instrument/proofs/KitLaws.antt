-- The table of an instrument reads as its zones.
use Rattle.std.proofs.Common.{◌≡◌, ◌≤◌, ◌<◌, ◌^◌, ◌+◌, ◌-◌, ◌*◌, ◌++◌, ℕ, ℤ, pos, negsuc, zero, suc, Bool, true, false, not, List}
use Rattle.std.proofs.Common.{[], ◌∷◌, length, map, replicate, codes, nat_le, nat_lt, Option, Some, None, refl, sym, ap, ◌∙◌}
use Rattle.std.proofs.Common.{subst, arith}
use Rattle.std.specs.Prelude.{◌&&◌, ◌||◌, ◌==◌, cond, if◌then◌else◌, max, min, slice_get, unwrap_or}
use Rattle.std.specs.Int.{w16, cast_signed, int_max, int_min}
use Rattle.std.specs.List.{cons_option, filter_map, flat_map, list_all, range_with_len, AllByRecursion}
use Rattle.std.specs.Option.{option_and_then, option_map, option_map_or, option_or}
use Rattle.std.proofs.lemmas.Bool.{and_parts, and_from, le-leb}
use Rattle.std.proofs.lemmas.Bool.Decides.{nat_tests}
use Rattle.std.proofs.lemmas.List.{append-nil}
use Rattle.std.proofs.lemmas.List.FromFn.{length-range_with_len}
use Rattle.sf_base.specs.Names.{IsName}
use Rattle.bank_parts.specs.declared.owners.ZonePlace.TheVariants as there
use Rattle.bank_changes.proofs.Changes.{all_found}
use Rattle.std.proofs.lemmas.Option.{slice_get_within}
use Rattle.zone_select.proofs.ZoneLaws.{zones_few}
use Rattle.bank_parts.specs.declared.parts.GlobalZone.{GlobalZone}
use Rattle.bank_parts.specs.declared.parts.Parts.{Parts}
use Rattle.bank_parts.specs.declared.parts.Sample.{Sample}
use Rattle.bank_parts.specs.declared.parts.Zone.{Zone}
use Rattle.bank_parts.specs.declared.parts.ZoneOwner.{ZoneOwner}
use Rattle.bank_parts.specs.Fits.{FitsOwner, FitsZone}
use Rattle.bank_parts.specs.Owners.{zone_at}
use Rattle.bank_parts.specs.Sound.{IsSound}
use Rattle.bank_changes.specs.declared.members.Owner.TheVariants as owner
use Rattle.bank_changes.specs.Members.{owner_zone_count, target_of}
use Rattle.bank_folders.specs.Laws.{files_from, files_of}
use Rattle.generators.specs.declared.range.Range.{Range}
use Rattle.kit_tables.specs.declared.limits.TheConstants.{MOST_ROWS}
use Rattle.kit_tables.specs.declared.zone.KitZone.{KitZone}
use Rattle.kit_tables.specs.Rows.{rows_of}
use Rattle.kit_tables.specs.RowTexts.{WrittenLine, ZoneLine, Comment, HasNoFeed, IsFile, IsKitClass, IsKitPan, IsKitRange}
use Rattle.kit_tables.specs.RowTexts.{IsKitZone, IsPan, IsWrittenLine, ReadsAs, zones_in}
use Rattle.kit_of_instrument.proofs.FileLaws.{file_quotable}
use Rattle.kit_tables.proofs.RowTextLaws.{pieces_feed, tables_read_back}
use Rattle.script_tokens.specs.declared.printing.Piece.{Piece}
use Rattle.script_tokens.specs.declared.printing.Piece.TheVariants as piece
use Rattle.script_tokens.specs.Printing.{is_quotable, spaced}
use Rattle.script_tokens.proofs.PieceLaws.{AllPrintable, printable_name, printable_number, printable_word}
use Rattle.script_grammar.specs.Operands.{Operand, pieces_of}
use Rattle.script_grammar.specs.Zones.{global_of, global_operands, written_of, written_operands, written_zone, zone_operands}
use Rattle.script_grammar.proofs.OperandLaws.{AllFit, all_printable}
use Rattle.script_grammar.proofs.ZoneFitLaws.{zone_operands_fit, zones_fit}
use Rattle.show_zone_map.specs.declared.rectangle.Rectangle.{Rectangle}
use Rattle.show_zone_map.specs.Rectangles.{area_of, everything, has_notes, key_or, rectangle_at, rectangle_of, root_key}
use Rattle.show_zone_map.specs.Rectangles.{sample_root, with_notes, zone_numbers}
use Rattle.zone_select.specs.Remaining.{zones_in as zone_total}
use Rattle.kit_of_instrument.specs.KitZones.{amount_in, class_in, clipped_pan, file_at, is_plain, is_whole, kit_class, kit_zone}
use Rattle.kit_of_instrument.specs.KitZones.{kit_zones, listed_zone, with_file}
use Rattle.kit_of_instrument.specs.KitLines.{global_line, head_lines, kit_lines, kit_text, name_line, rest_lines}
use Rattle.kit_of_instrument.specs.KitLines.{table_lines, zone_line, zone_lines}

-- ---- files

files_quotable : (n : ℕ) (samples : List Sample) (t : ℕ)
    → list_all is_quotable (unwrap_or (slice_get (files_from n samples) t) []) ≡ true
files_quotable n [] t = refl
files_quotable n (s ∷ samples) zero = file_quotable n s.name
files_quotable n (s ∷ samples) (suc t) = files_quotable (suc n) samples t

is_file : (b : Parts) (t : ℕ) → IsFile (file_at (files_of b) t)
is_file b t = record { some = omega arith; quotable = files_quotable 0 b.samples t }

-- ---- zones

key_low : (n other : ℕ) → other ≤ 127 → key_or n other ≤ 127
key_low n other h = from (nat_le n 127) refl
  where
    from : (t : Bool) → nat_le n 127 ≡ t → cond t n other ≤ 127
    from true e = grind (arith, nat_tests, e)
    from false e = h

sample_low : (b : Parts) (s : ℕ) → sample_root b s ≤ 127
sample_low b s = from (slice_get b.samples s)
  where
    from : (o : Option Sample) → option_map_or (λ (x : Sample). key_or x.key 60) o 60 ≤ 127
    from None = omega arith
    from (Some x) = key_low x.key 60 (omega arith)

root_low : (b : Parts) (i l s : ℕ) → root_key b i l s ≤ 127
root_low b i l s = from (amount_in b i l 58)
  where
    from : (o : Option ℕ) → option_map_or (λ n. key_or n (sample_root b s)) o (sample_root b s) ≤ 127
    from None = sample_low b s
    from (Some n) = key_low n (sample_root b s) (sample_low b s)

-- a rectangle has notes, and is the one of its zone
record IsOf (b : Parts) (i l : ℕ) (r : Rectangle) : Type 0 where
  notes : has_notes r.area ≡ true
  sample : ℕ
  is : rectangle_of b None everything i l sample ≡ r

rectangle_is : (b : Parts) (i l : ℕ) (r : Rectangle) → rectangle_at b None everything i l ≡ Some r → IsOf b i l r
rectangle_is b i l r e = from (target_of b (owner.Inst i) l) e
  where
    by_notes : (s : ℕ) (t : Bool) → has_notes (rectangle_of b None everything i l s).area ≡ t
        → cond t (Some (rectangle_of b None everything i l s)) None ≡ Some r → IsOf b i l r
    by_notes s true h k =
        let is : rectangle_of b None everything i l s ≡ r = cc in
        record { notes = ap (λ (x : Rectangle). has_notes x.area) (sym is) ∙ h; sample = s; is = is }
    by_notes s false h k = absurd cc

    from : (o : Option ℕ)
        → option_and_then (λ (s : ℕ). with_notes (rectangle_of b None everything i l s)) o ≡ Some r → IsOf b i l r
    from None k = absurd cc
    from (Some s) k = by_notes s (has_notes (rectangle_of b None everything i l s).area) refl k

clipped : (z : ℤ) → IsPan (int_min (int_max z (negsuc 499)) (pos 500))
clipped (pos n) = from (nat_lt 500 n) refl
  where
    from : (t : Bool) → nat_lt 500 n ≡ t → IsPan (cond t (pos 500) (pos n))
    from true e = omega arith
    from false e = grind (arith, nat_tests, e)
clipped (negsuc n) = from (nat_lt n 499) refl
  where
    from : (t : Bool) → nat_lt n 499 ≡ t → IsPan (int_min (cond t (negsuc n) (negsuc 499)) (pos 500))
    from true e = grind (arith, nat_tests, e)
    from false e = omega arith

pan_clipped : (amount : ℕ) → IsPan (clipped_pan amount)
pan_clipped amount = clipped (cast_signed w16 amount)

pan_is : (o : Option ℕ) → IsKitPan (option_map clipped_pan o)
pan_is None = tt
pan_is (Some amount) = pan_clipped amount

class_is : (o : Option ℕ) → IsKitClass (kit_class o)
class_is None = tt
class_is (Some amount) = from (nat_lt 0 amount) (nat_le amount 127) refl refl
  where
    from : (s t : Bool) → nat_lt 0 amount ≡ s → nat_le amount 127 ≡ t
        → IsKitClass (if s && t then Some amount else None)
    from true true e f = (grind (arith, nat_tests, e), grind (arith, nat_tests, f))
    from true false e f = tt
    from false t e f = tt

zone_is : (b : Parts) (i l : ℕ) (r : Rectangle) → rectangle_at b None everything i l ≡ Some r → IsKitZone (kit_zone b i r)
zone_is b i l r e =
    let of = rectangle_is b i l r e in
    let both = and_parts (nat_le r.area.keys.low r.area.keys.high) (nat_le r.area.velocities.low r.area.velocities.high) of.notes in
    record {
      keys = record {
        rising = (let rising = both.0 in grind (arith, nat_tests, rising));
        high = subst (λ (x : Rectangle). x.area.keys.high ≤ 127) of.is (omega arith);
      };
      velocities = record {
        rising = (let rising = both.1 in grind (arith, nat_tests, rising));
        high = subst (λ (x : Rectangle). x.area.velocities.high ≤ 127) of.is (omega arith);
      };
      root = subst (λ (x : Rectangle). x.root ≤ 127) of.is (root_low b i l of.sample);
      pan = pan_is (amount_in b i r.zone 17);
      class = class_is (amount_in b i r.zone 57);
    }

-- ---- comments

word_32 : (n : ℕ) → n ≤ 65535 → n < 2 ^ 32
word_32 n h = omega (arith, h)

operands_fed : (ps : List Piece) (os : List Operand) → AllPrintable ps → AllFit os → AllPrintable (ps ++ pieces_of os)
operands_fed [] os h k = all_printable os k
operands_fed (p ∷ ps) os h k = (h.0, operands_fed ps os h.1 k)

front_fits : (os more : List Operand) → AllFit (os ++ more) → AllFit os
front_fits [] more h = tt
front_fits (o ∷ os) more h = (h.0, front_fits os more h.1)

name_written : (i : ℕ) (x : ZoneOwner (List ℕ)) → i < 2 ^ 32 → FitsOwner IsName x → IsWrittenLine (name_line i x.head)
name_written i x h fits =
    pieces_feed (piece.Word (codes "inst") ∷ piece.Number i ∷ piece.Name x.head ∷ [])
    (printable_word (codes "inst") refl refl, (printable_number i h, (printable_name x.head fits.head, tt)))

global_written : (x : ZoneOwner (List ℕ)) → FitsOwner IsName x → IsWrittenLine (global_line x.global)
global_written x fits =
    pieces_feed (piece.Word (codes "zone") ∷ pieces_of (global_operands (global_of x.global)))
    (operands_fed (piece.Word (codes "zone") ∷ []) (global_operands (global_of x.global))
    (printable_word (codes "zone") refl refl, tt)
    (front_fits (global_operands (global_of x.global)) [] (zones_fit x.global [] fits.global tt)))

zone_written : (l : ℕ) (z : Zone) → l < 2 ^ 32 → FitsZone z → IsWrittenLine (zone_line l z)
zone_written l z h fits =
    pieces_feed (piece.Word (codes "zone") ∷ piece.Number l ∷ pieces_of (zone_operands (written_zone z)))
    (operands_fed (piece.Word (codes "zone") ∷ piece.Number l ∷ []) (zone_operands (written_zone z))
    (printable_word (codes "zone") refl refl, (printable_number l h, tt)) (zone_operands_fit z fits))

zone_fits : (b : Parts) (i l : ℕ) (z : Zone) → IsSound b → zone_at b.instruments i l ≡ Some z → FitsZone z
zone_fits b i l z sound e = from (slice_get b.instruments i) refl e
  where
    from : (o : Option (ZoneOwner (List ℕ))) → slice_get b.instruments i ≡ o
        → option_and_then (λ (x : ZoneOwner (List ℕ)). slice_get x.zones l) o ≡ Some z → FitsZone z
    from None f k = absurd cc
    from (Some x) f k =
        let fits = all_found (FitsOwner IsName) b.instruments i x f sound.fits.instruments in
        all_found FitsZone x.zones l z k fits.zones

-- ---- the lines of a zone

lines_both : (xs ys : List WrittenLine) → AllByRecursion IsWrittenLine xs → AllByRecursion IsWrittenLine ys
    → AllByRecursion IsWrittenLine (xs ++ ys)
lines_both [] ys h k = k
lines_both (x ∷ xs) ys h k = (h.0, lines_both xs ys h.1 k)

listed_written : (b : Parts) (i l : ℕ) → AllByRecursion IsWrittenLine (table_lines (files_of b) b i l)
listed_written b i l = from (rectangle_at b None everything i l) refl
  where
    from : (o : Option Rectangle) → rectangle_at b None everything i l ≡ o
        → AllByRecursion IsWrittenLine
        (option_map_or (λ e. ZoneLine e.0 e.1 ∷ []) (option_map (with_file (files_of b) b i) o) [])
    from None e = tt
    from (Some r) e = ((is_file b r.sample, zone_is b i l r e), tt)

rest_written : (b : Parts) (i l : ℕ) → IsSound b → l < 2 ^ 32 → AllByRecursion IsWrittenLine (rest_lines b i l)
rest_written b i l sound h = by_whole (is_whole b i l)
  where
    from : (o : Option Zone) → zone_at b.instruments i l ≡ o
        → AllByRecursion IsWrittenLine (option_map_or (λ (z : Zone). zone_line l z ∷ []) o [])
    from None e = tt
    from (Some z) e = (zone_written l z h (zone_fits b i l z sound e), tt)

    by_whole : (t : Bool)
        → AllByRecursion IsWrittenLine
        (if t then [] else option_map_or (λ (z : Zone). zone_line l z ∷ []) (zone_at b.instruments i l) [])
    by_whole true = tt
    by_whole false = from (zone_at b.instruments i l) refl

numbers_written : (b : Parts) (i n count : ℕ) → IsSound b → n + count ≤ 65535
    → AllByRecursion IsWrittenLine (flat_map (zone_lines (files_of b) b i) (range_with_len n count))
numbers_written b i n zero sound h = tt
numbers_written b i n (suc count) sound h =
    lines_both (zone_lines (files_of b) b i n) (flat_map (zone_lines (files_of b) b i) (range_with_len (n + 1) count))
    (lines_both (table_lines (files_of b) b i n) (rest_lines b i n) (listed_written b i n)
    (rest_written b i n sound (omega (arith, h))))
    (numbers_written b i (n + 1) count sound (omega (arith, h)))

head_written : (b : Parts) (i : ℕ) → IsSound b → AllByRecursion IsWrittenLine (head_lines b i)
head_written b i sound = from (slice_get b.instruments i) refl
  where
    by_plain : (t : Bool) (x : ZoneOwner (List ℕ)) → FitsOwner IsName x
        → AllByRecursion IsWrittenLine (if t then [] else global_line x.global ∷ [])
    by_plain true x fits = tt
    by_plain false x fits = (global_written x fits, tt)

    from : (o : Option (ZoneOwner (List ℕ))) → slice_get b.instruments i ≡ o
        → AllByRecursion IsWrittenLine
        (option_map_or
        (λ (x : ZoneOwner (List ℕ)).
        name_line i x.head ∷ (if is_plain b i there.Global then [] else global_line x.global ∷ [])) o [])
    from None e = tt
    from (Some x) e =
        let fits = all_found (FitsOwner IsName) b.instruments i x e sound.fits.instruments in
        let low = slice_get_within b.instruments i x e in
        let few = sound.valid.limits.instruments in
        (name_written i x (omega (arith, low, few)) fits, by_plain (is_plain b i there.Global) x fits)

-- ---- the zones of lines

zones_both : (xs ys : List WrittenLine) → zones_in (xs ++ ys) ≡ zones_in xs ++ zones_in ys
zones_both [] ys = refl
zones_both (ZoneLine file z ∷ xs) ys = ap (λ (zs : List (List ℕ × KitZone)). (file, z) ∷ zs) (zones_both xs ys)
zones_both (Comment ps ∷ xs) ys = zones_both xs ys

no_zones_in_rest : (b : Parts) (i l : ℕ) → zones_in (rest_lines b i l) ≡ []
no_zones_in_rest b i l = by_whole (is_whole b i l) (zone_at b.instruments i l)
  where
    by_whole : (t : Bool) (o : Option Zone)
        → zones_in (if t then [] else option_map_or (λ (z : Zone). zone_line l z ∷ []) o []) ≡ []
    by_whole true o = refl
    by_whole false None = refl
    by_whole false (Some z) = refl

one_listed : (o : Option (List ℕ × KitZone)) (rest : List (List ℕ × KitZone))
    → zones_in (option_map_or (λ e. ZoneLine e.0 e.1 ∷ []) o []) ++ rest ≡ cons_option o rest
one_listed None rest = refl
one_listed (Some e) rest = refl

numbers_listed : (files : List (List ℕ)) (b : Parts) (i : ℕ) (ls : List ℕ)
    → zones_in (flat_map (zone_lines files b i) ls) ≡ filter_map (listed_zone files b i) ls
numbers_listed files b i [] = refl
numbers_listed files b i (l ∷ ls) =
    zones_both (zone_lines files b i l) (flat_map (zone_lines files b i) ls)
    ∙ (λ j. zones_both (table_lines files b i l) (rest_lines b i l) j ++ numbers_listed files b i ls j)
    ∙ (λ j. (zones_in (table_lines files b i l) ++ no_zones_in_rest b i l j) ++ filter_map (listed_zone files b i) ls)
    ∙ ap (λ (zs : List (List ℕ × KitZone)). zs ++ filter_map (listed_zone files b i) ls)
    (append-nil (zones_in (table_lines files b i l)))
    ∙ one_listed (listed_zone files b i l) (filter_map (listed_zone files b i) ls)

head_listed : (b : Parts) (i : ℕ) → zones_in (head_lines b i) ≡ []
head_listed b i = from (slice_get b.instruments i) (is_plain b i there.Global)
  where
    from : (o : Option (ZoneOwner (List ℕ))) (t : Bool)
        → zones_in
        (option_map_or
        (λ (x : ZoneOwner (List ℕ)). name_line i x.head ∷ (if t then [] else global_line x.global ∷ [])) o [])
        ≡ []
    from None t = refl
    from (Some x) true = refl
    from (Some x) false = refl

all_listed : (b : Parts) (i : ℕ) → zones_in (kit_lines (files_of b) b i) ≡ kit_zones (files_of b) b i
all_listed b i =
    zones_both (head_lines b i) (flat_map (zone_lines (files_of b) b i) (zone_numbers b (owner.Inst i)))
    ∙ (λ j. head_listed b i j ++ numbers_listed (files_of b) b i (zone_numbers b (owner.Inst i)) j)

cons_few : {Y : Type 0} (o : Option Y) (ys : List Y) (n : ℕ) → length ys ≤ n → length (cons_option o ys) ≤ suc n
cons_few None ys n h = omega (arith, h)
cons_few (Some y) ys n h = omega (arith, h)

filter_few : {X Y : Type 0} (f : X → Option Y) (xs : List X) → length (filter_map f xs) ≤ length xs
filter_few f [] = omega arith
filter_few f (x ∷ xs) = cons_few (f x) (filter_map f xs) (length xs) (filter_few f xs)

total_few : (b : Parts) (i : ℕ) → IsSound b → zone_total b (owner.Inst i) ≤ 65535
total_few b i sound = zones_few b (owner.Inst i) sound.valid.limits

pub kits_read_back : (b : Parts) (i : ℕ) → IsSound b
    → ReadsAs (rows_of (kit_text (files_of b) b i)) (kit_zones (files_of b) b i)
unfolding kit_text
kits_read_back b i sound =
    let few = total_few b i sound in
    let listed = all_listed b i in
    let written =
    lines_both (head_lines b i) (flat_map (zone_lines (files_of b) b i) (zone_numbers b (owner.Inst i)))
    (head_written b i sound) (numbers_written b i 0 (zone_total b (owner.Inst i)) sound (omega (arith, few))) in
    let fewer = filter_few (listed_zone (files_of b) b i) (zone_numbers b (owner.Inst i)) in
    let count = length-range_with_len 0 (zone_total b (owner.Inst i)) in
    let enough : length (zones_in (kit_lines (files_of b) b i)) ≤ MOST_ROWS =
    subst (λ (zs : List (List ℕ × KitZone)). length zs ≤ MOST_ROWS) (sym listed) (omega (arith, few, fewer, count)) in
    subst (ReadsAs (rows_of (kit_text (files_of b) b i))) listed (tables_read_back (kit_lines (files_of b) b i) written enough)
