-- What is written in JSON has no `<`.
use Rattle.std.proofs.Common.{◌≡◌, ◌<◌, ◌+◌, ◌/◌, ◌%◌, ℕ, zero, suc, ◌==◌, ◌&&◌, not, true, false, List, []}
use Rattle.std.proofs.Common.{◌∷◌, ◌++◌, get_or, nat_lt, nat_le, codes, decimal, ap, refl, ◌∙◌, arith, ℤ, pos, negsuc}
use Rattle.std.specs.List.{list_all, flat_map}
use Rattle.std.specs.Fmt.{digits, digits_onto, digit_glyph, signed_decimal}
use Rattle.std.proofs.lemmas.Bool.{ne_eqb, and_from, and_parts, or_parts, cond_both}
use Rattle.std.proofs.lemmas.List.Folds.{list_all-append}
use Rattle.hex.specs.Hex.{encode_with, lower_digits}
use Rattle.show_page.specs.declared.json.Field.{Field}
use Rattle.show_page.specs.declared.json.Field.TheVariants.{Number, Signed, Text}
use Rattle.show_page.specs.Json.{is_escaped, two_digits, character, quoted, field_text, next_text, more, opened, listed}
use Rattle.show_page.specs.Laws.{is_inner}

pub record Inner (text : List ℕ) : Type 0 where
  pub all : list_all is_inner text ≡ true

-- a constant text
pub fixed : {text : List ℕ} → list_all is_inner text ≡ true → Inner text
fixed e = record { all = e }

-- ---- lists of texts

pub inner_then : (t u : List ℕ) → Inner t → Inner u → Inner (t ++ u)
inner_then t u h k = fixed (list_all-append is_inner t u ∙ and_from _ _ h.all k.all)

pub inner_all : {X : Type 0} (f : X → List ℕ) → ((x : X) → Inner (f x)) → (xs : List X) → Inner (flat_map f xs)
inner_all f each [] = fixed refl
inner_all f each (x ∷ xs) = inner_then (f x) (flat_map f xs) (each x) (inner_all f each xs)

-- a byte other than 60 before a text
inner_more : (b : ℕ) (text : List ℕ) → ¬ (b ≡ 60) → Inner text → Inner (b ∷ text)
inner_more b text other h = fixed (and_from (is_inner b) (list_all is_inner text) (ap not (ne_eqb b 60 other)) h.all)

-- ---- numbers

-- a decimal digit
other_glyph : (d : ℕ) → d < 10 → ¬ (digit_glyph false d ≡ 60)
other_glyph d h =
    cond_both (nat_lt d 10) (48 + d) (87 + d) (λ c. ¬ (c ≡ 60)) (λ t e. omega (arith, h, e))
    (λ t e. omega (arith, e))

inner_onto : (k n : ℕ) (text : List ℕ) → Inner text → Inner (digits_onto k 10 false n text)
inner_onto zero n text h = h
inner_onto (suc k) n text h =
    let d = digit_glyph false (n % 10) in
    let longer : Inner (d ∷ text) = inner_more d text (other_glyph (n % 10) (omega arith)) h in
    cond_both (n / 10 == 0) (d ∷ text) (digits_onto k 10 false (n / 10) (d ∷ text)) Inner (λ t. longer)
    (λ t. inner_onto k (n / 10) (d ∷ text) longer)

pub inner_decimal : (n : ℕ) → Inner (decimal n)
unfolding digits
inner_decimal n = inner_onto 64 n [] (fixed refl)

pub inner_signed : (z : ℤ) → Inner (signed_decimal z)
inner_signed (pos n) = inner_decimal n
inner_signed (negsuc n) = inner_then (codes "-") (decimal (suc n)) (fixed refl) (inner_decimal (suc n))

-- ---- texts

-- a hexadecimal digit
inner_at : (xs : List ℕ) (i : ℕ) → list_all is_inner xs ≡ true → is_inner (get_or xs i 0) ≡ true
inner_at [] i h = refl
inner_at (x ∷ xs) zero h = (and_parts (is_inner x) (list_all is_inner xs) h).0
inner_at (x ∷ xs) (suc i) h = inner_at xs i (and_parts (is_inner x) (list_all is_inner xs) h).1

pub inner_digits : (b : ℕ) → Inner (two_digits b)
unfolding encode_with
inner_digits b =
    fixed
    (and_from (is_inner (get_or lower_digits (b / 16) 0)) (is_inner (get_or lower_digits (b % 16) 0) && true)
    (inner_at lower_digits (b / 16) refl)
    (and_from (is_inner (get_or lower_digits (b % 16) 0)) true (inner_at lower_digits (b % 16) refl) refl))

-- one that is not escaped is not `<`
inner_plain : (b : ℕ) → is_escaped b ≡ false → is_inner b ≡ true
inner_plain b h =
    let a = (or_parts (b == 10) _ h).1 in
    let c = (or_parts (b == 13) _ a).1 in
    let d = (or_parts (b == 34) _ c).1 in
    let e = (or_parts (b == 38) _ d).1 in
    ap not (or_parts (b == 60) _ e).0

pub inner_character : (b : ℕ) → Inner (character b)
unfolding character
inner_character b =
    cond_both (is_escaped b) _ _ Inner (λ t. inner_then (codes "\\u00") (two_digits b) (fixed refl) (inner_digits b))
    (λ t.
    cond_both (nat_le 32 b && nat_le b 126) _ _ Inner (λ u. fixed (and_from (is_inner b) true (inner_plain b t) refl))
    (λ u. fixed refl))

pub inner_quoted : (text : List ℕ) → Inner (quoted text)
inner_quoted text =
    inner_then (codes "\"") (flat_map character text ++ codes "\"") (fixed refl)
    (inner_then (flat_map character text) (codes "\"") (inner_all character inner_character text) (fixed refl))

-- ---- fields and lists

pub inner_field : (f : Field) → Inner (field_text f)
unfolding field_text
inner_field (Number n) = inner_decimal n
inner_field (Signed z) = inner_signed z
inner_field (Text bytes) = inner_quoted bytes

pub inner_next : (f : Field) → Inner (next_text f)
inner_next f = inner_then (codes ",") (field_text f) (fixed refl) (inner_field f)

pub inner_fields : (fields : List Field) → Inner (more fields)
inner_fields fields = inner_all next_text inner_next fields

pub inner_opened : (first : Field) → Inner (opened first)
inner_opened first = inner_then (codes "[") (field_text first) (fixed refl) (inner_field first)

pub inner_listed : (first : Field) (others : List Field) → Inner (listed first others)
inner_listed first others =
    inner_then (opened first) (more others ++ codes "]") (inner_opened first)
    (inner_then (more others) (codes "]") (inner_fields others) (fixed refl))
