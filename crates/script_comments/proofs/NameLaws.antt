-- Items of names are printable: no name has a line feed as it is printed.
use Rattle.std.proofs.Common.{◌≡◌, ◌<◌, ◌≤◌, ◌^◌, ℕ, Bool, true, false, List, [], ◌∷◌, length, map, slice_get, Option, Some, None}
use Rattle.std.proofs.Common.{refl, subst, arith}
use Rattle.std.specs.Prelude.{find, ◌==◌, ◌&&◌, nat_le, if◌then◌else◌}
use Rattle.std.specs.Option.{option_map}
use Rattle.std.specs.List.{list_all, flat_map}
use Rattle.std.proofs.lemmas.Bool.{and_parts, leb-true}
use Rattle.std.proofs.lemmas.Option.{slice_get_within}
use Rattle.sf_base.specs.Names.{IsName}
use Rattle.generators.specs.declared.level.Level.{Level}
use Rattle.generator_rows.specs.declared.row.GeneratorRow.{GeneratorRow}
use Rattle.generator_rows.specs.declared.rows.TheConstants.{ROWS}
use Rattle.generator_rows.specs.Rows.{without_blanks}
use Rattle.bank_parts.specs.declared.parts.Head.{Head}
use Rattle.bank_parts.specs.declared.parts.Sample.{Sample}
use Rattle.bank_parts.specs.declared.parts.Parts.{Parts}
use Rattle.bank_parts.specs.declared.parts.Zone.{Zone}
use Rattle.bank_parts.specs.declared.parts.ZoneOwner.{ZoneOwner}
use Rattle.bank_parts.specs.Fits.{FitsOwner, FitsHead, FitsSample}
use Rattle.bank_parts.specs.Sound.{IsSound}
use Rattle.bank_parts.proofs.ListLaws.{everywhere-found}
use Rattle.script_tokens.specs.declared.printing.Piece.{Piece}
use Rattle.script_tokens.specs.TextForm.{is_word}
use Rattle.script_tokens.proofs.TestLaws.{not_feed}
use Rattle.script_tokens.proofs.PieceLaws.{printable_name, printable_number, printable_word}
use Rattle.script_comments.specs.declared.names.Member.{Member}
use Rattle.script_comments.specs.declared.names.Member.TheVariants as member
use Rattle.script_comments.specs.Names.{number_of, name_of, target_of, named, numbered, row_with, named_operator}
use Rattle.script_comments.specs.Names.{numbered_operator, each_of, name_item, numbered_item, operator_item}
use Rattle.script_comments.specs.Zones.{target_items, operator_items}
use Rattle.script_comments.proofs.SkipLaws.{ArePrintable, printable_all, printable_both}

-- ---- members

-- the name is a name, and the number is small
abbrev IsNamed : ℕ → Option (List ℕ) → Type 0
IsNamed n None = Unit {0}
IsNamed n (Some name) = IsName name × (n < 2 ^ 32)

named_preset : (n : ℕ) (xs : List (ZoneOwner Head)) (found : Option (ZoneOwner Head)) → slice_get xs n ≡ found
    → ((x : ZoneOwner Head) → slice_get xs n ≡ Some x → FitsOwner FitsHead x) → length xs ≤ 65535
    → IsNamed n (option_map (λ (h : Head). h.name) (option_map (λ x. x.head) found))
named_preset n xs None is fits few = tt
named_preset n xs (Some x) is fits few =
    let within = slice_get_within xs n x is in ((fits x is).head.name, omega (arith, within, few))

named_instrument : (n : ℕ) (xs : List (ZoneOwner (List ℕ))) (found : Option (ZoneOwner (List ℕ)))
    → slice_get xs n ≡ found → ((x : ZoneOwner (List ℕ)) → slice_get xs n ≡ Some x → FitsOwner IsName x)
    → length xs ≤ 65535 → IsNamed n (option_map (λ x. x.head) found)
named_instrument n xs None is fits few = tt
named_instrument n xs (Some x) is fits few =
    let within = slice_get_within xs n x is in ((fits x is).head, omega (arith, within, few))

named_sample : (n : ℕ) (xs : List Sample) (found : Option Sample) → slice_get xs n ≡ found
    → ((x : Sample) → slice_get xs n ≡ Some x → FitsSample x) → length xs ≤ 65535
    → IsNamed n (option_map (λ (s : Sample). s.name) found)
named_sample n xs None is fits few = tt
named_sample n xs (Some x) is fits few =
    let within = slice_get_within xs n x is in ((fits x is).name, omega (arith, within, few))

is_named : (b : Parts) (m : Member) → IsSound b → IsNamed (number_of m) (name_of b m)
is_named b (member.Preset n) s =
    named_preset n b.presets (slice_get b.presets n) refl
    (λ x is. everywhere-found (FitsOwner FitsHead) b.presets n x is s.fits.presets) s.valid.limits.presets
is_named b (member.Instrument n) s =
    named_instrument n b.instruments (slice_get b.instruments n) refl
    (λ x is. everywhere-found (FitsOwner IsName) b.instruments n x is s.fits.instruments) s.valid.limits.instruments
is_named b (member.Sample n) s =
    named_sample n b.samples (slice_get b.samples n) refl
    (λ x is. everywhere-found FitsSample b.samples n x is s.fits.samples) s.valid.limits.samples

map_printable : (found : Option (List ℕ)) (item : List ℕ → List Piece)
    → ((name : List ℕ) → found ≡ Some name → ArePrintable (item name ∷ []))
    → ArePrintable (map item (each_of found))
map_printable None item h = tt
map_printable (Some name) item h = h name refl

of_some : (n : ℕ) (found : Option (List ℕ)) (name : List ℕ) → IsNamed n found → found ≡ Some name
    → IsName name × (n < 2 ^ 32)
of_some n found name h e = subst (IsNamed n) e h

pub named_printable : (b : Parts) (m : Member) → IsSound b → ArePrintable (named b m)
named_printable b m s =
    map_printable (name_of b m) name_item
    (λ name e. ((printable_name name (of_some (number_of m) (name_of b m) name (is_named b m s) e).0, tt), tt))

pub numbered_printable : (b : Parts) (m : Member) → IsSound b → ArePrintable (numbered b m)
numbered_printable b m s =
    map_printable (name_of b m) (numbered_item (number_of m))
    (λ name e.
    let h = of_some (number_of m) (name_of b m) name (is_named b m s) e in
    ((printable_number (number_of m) h.1, (printable_name name h.0, tt)), tt))

pub targets_printable : (b : Parts) (at : Level) (zs : List Zone) → IsSound b → ArePrintable (target_items b at zs)
targets_printable b at zs s =
    printable_all (λ (z : Zone). numbered b (target_of at z.target))
    (λ z. numbered_printable b (target_of at z.target) s) zs

-- ---- operators

-- a name without blanks that begins neither a comment nor a literal, and a small number
abbrev is_plain_row : GeneratorRow → Bool
is_plain_row row =
    is_word (without_blanks row.name) && (list_all not_feed (without_blanks row.name) && nat_le row.number 60)

all_plain : list_all is_plain_row ROWS ≡ true
all_plain = refl

small : (n : ℕ) → nat_le n 60 ≡ true → n < 2 ^ 32
small n h = let le = leb-true n 60 h in omega (arith, le)

operator_printable : (row : GeneratorRow) → is_plain_row row ≡ true → ArePrintable (operator_item row ∷ [])
operator_printable row h =
    let (word, rest) = and_parts (is_word (without_blanks row.name)) _ h in
    let (feed, number) = and_parts (list_all not_feed (without_blanks row.name)) _ rest in
    ((printable_word (without_blanks row.name) word feed, tt), tt)

numbered_row_printable : (row : GeneratorRow) → is_plain_row row ≡ true → ArePrintable (numbered_operator row ∷ [])
numbered_row_printable row h =
    let (word, rest) = and_parts (is_word (without_blanks row.name)) _ h in
    let (feed, number) = and_parts (list_all not_feed (without_blanks row.name)) _ rest in
    ((printable_number row.number (small row.number number), (printable_word (without_blanks row.name) word feed, tt)), tt)

first_passes : (p q : GeneratorRow → Bool) (x : GeneratorRow) (rows : List GeneratorRow) (row : GeneratorRow) (here : Bool)
    → p x ≡ here → q x ≡ true → (find p rows ≡ Some row → q row ≡ true) → find p (x ∷ rows) ≡ Some row → q row ≡ true
first_passes p q x rows row true is h rest e =
    let same : Some x ≡ Some row = rw is at e in
    let own : x ≡ row = cc same in
    subst (λ (y : GeneratorRow). q y ≡ true) own h
first_passes p q x rows row false is h rest e = rest (rw is at e)

found_passes : (p q : GeneratorRow → Bool) (rows : List GeneratorRow) (row : GeneratorRow) → list_all q rows ≡ true
    → find p rows ≡ Some row → q row ≡ true
found_passes p q [] row h e = cc
found_passes p q (x ∷ rows) row h e =
    let (first, others) = and_parts (q x) (list_all q rows) h in
    first_passes p q x rows row (p x) refl first (λ f. found_passes p q rows row others f) e

row_printable : (found : Option GeneratorRow) → ((row : GeneratorRow) → found ≡ Some row → is_plain_row row ≡ true)
    → ArePrintable (map operator_item (each_of found))
row_printable None h = tt
row_printable (Some row) h = operator_printable row (h row refl)

pub operator_name_printable : (op : ℕ) → ArePrintable (named_operator op)
operator_name_printable op =
    row_printable (row_with op)
    (λ row e. found_passes (λ row. row.number == op) is_plain_row ROWS row all_plain e)

listed_printable : (has : ℕ → Bool) (row : GeneratorRow) (here : Bool) → is_plain_row row ≡ true
    → ArePrintable (if here then numbered_operator row ∷ [] else [])
listed_printable has row true h = numbered_row_printable row h
listed_printable has row false h = tt

rows_printable : (has : ℕ → Bool) (rows : List GeneratorRow) → list_all is_plain_row rows ≡ true
    → ArePrintable (flat_map (λ row. if has row.number then numbered_operator row ∷ [] else []) rows)
rows_printable has [] h = tt
rows_printable has (row ∷ rows) h =
    let (first, rest) = and_parts (is_plain_row row) (list_all is_plain_row rows) h in
    printable_both _ _ (listed_printable has row (has row.number) first) (rows_printable has rows rest)

pub operators_printable : (has : ℕ → Bool) → ArePrintable (operator_items has)
operators_printable has = rows_printable has ROWS all_plain
