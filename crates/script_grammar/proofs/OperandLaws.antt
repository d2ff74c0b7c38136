-- The pieces that are printed for operands that fit encode those operands.
use Rattle.std.proofs.Common.{◌≡◌, ◌≤◌, ◌<◌, ◌^◌, ◌%◌, ℕ, ℤ, pos, negsuc, lit<, FitsSigned, true, List, [], ◌∷◌}
use Rattle.std.proofs.Common.{◌++◌, length, map, decimal, refl, sym, arith}
use Rattle.std.specs.List.{list_all, flat_map, AllByRecursion}
use Rattle.std.specs.Int.{w16, cast_signed}
use Rattle.std.proofs.Math.Facts.{sfits_to_z}
use Rattle.std.proofs.lemmas.Int.{of_z-to_z}
use Rattle.std.specs.Fmt.{signed_decimal}
use Rattle.sf_base.specs.Names.{IsName}
use Rattle.sample_view.specs.Words.{word_bytes}
use Rattle.sample_view.proofs.WordLaws.{words_of_bytes}
use Rattle.bank_parts.specs.Fits.{FitsText}
use Rattle.script_tokens.specs.TextForm.{is_word, IsWithin}
use Rattle.script_tokens.proofs.TestLaws.{not_feed}
use Rattle.script_tokens.proofs.PieceLaws.{piece_value, IsPrintable, AllPrintable, writes, writes_signed, writes_range, range_text}
use Rattle.script_tokens.proofs.PieceLaws.{printable_number, printable_signed, printable_range, printable_word, printable_name}
use Rattle.script_tokens.proofs.PieceLaws.{printable_bytes, printable_hex, are_bytes}
use Rattle.script_grammar.specs.Operands.{Operand, Fixed, Number, Signed, Amount, Range, Name, Text, Points, Encodes}
use Rattle.script_grammar.specs.Operands.{AllEncode, piece_of, pieces_of}

-- a word that can be on a line
abbrev pub IsFixed : List ℕ → Type 0
IsFixed w = (is_word w ≡ true) × (list_all not_feed w ≡ true)

-- an operand that can be encoded
abbrev pub FitsOperand : Operand → Type 0
FitsOperand (Fixed w) = IsFixed w
FitsOperand (Number limit n) = (n ≤ limit) × (limit < 2 ^ 32)
FitsOperand (Signed limit z) = IsWithin limit z × (limit < 2 ^ 16)
FitsOperand (Amount amount) = amount < 2 ^ 16
FitsOperand (Range low high) = (low ≤ 255) × (high ≤ 255)
FitsOperand (Name bytes) = IsName bytes
FitsOperand (Text bytes) = FitsText bytes
FitsOperand (Points ps) = AllByRecursion (λ p. p < 2 ^ 16) ps

abbrev pub AllFit : List Operand → Type 0
AllFit os = AllByRecursion FitsOperand os

-- ---- bytes

points_text : (ps : List ℕ) → AllByRecursion (λ p. p < 2 ^ 16) ps → FitsText (flat_map word_bytes ps)
unfolding word_bytes
points_text [] h = tt
points_text (p ∷ ps) h = (omega arith, (let l = h.0 in omega (arith, l), points_text ps h.1))

length-points : (ps : List ℕ) → length (flat_map word_bytes ps) % 2 ≡ 0
unfolding word_bytes
length-points [] = refl
length-points (p ∷ ps) = let h = length-points ps in omega (arith, h)

-- ---- amounts

amount_within : (amount : ℕ) → amount < 2 ^ 16 → IsWithin 32767 (cast_signed w16 amount)
amount_within amount h = within (cast_signed w16 amount) (sfits_to_z (record { fits = h }))
  where
    within : (z : ℤ) → FitsSigned w16 z → IsWithin 32767 z
    within (pos n) v = let k : n < 2 ^ 15 = v.sfits in omega (arith, k)
    within (negsuc n) v = let k : n < 2 ^ 15 = v.sfits in omega (arith, k)

-- ---- one operand

pub operand_printable : (o : Operand) → FitsOperand o → IsPrintable (piece_of o)
operand_printable (Fixed w) h = printable_word w h.0 h.1
operand_printable (Number limit n) h = printable_number n (let a = h.0 in let b = h.1 in omega (arith, a, b))
operand_printable (Signed limit z) h = printable_signed limit z h.0 h.1
operand_printable (Amount amount) h = printable_signed 32767 (cast_signed w16 amount) (amount_within amount h) (lit< tt)
operand_printable (Range low high) h = printable_range low high h.0 h.1
operand_printable (Name bytes) h = printable_name bytes h
operand_printable (Text bytes) h = printable_bytes bytes (are_bytes bytes h)
operand_printable (Points ps) h =
    printable_hex (flat_map word_bytes ps) (are_bytes (flat_map word_bytes ps) (points_text ps h))

operand_encoded : (o : Operand) → FitsOperand o → Encodes (piece_value (piece_of o)) o
operand_encoded (Fixed w) h = refl
operand_encoded (Number limit n) h = (decimal n, refl, writes limit n h.0 h.1)
operand_encoded (Signed limit z) h = (signed_decimal z, refl, writes_signed limit z h.0 h.1)
operand_encoded (Amount amount) h = (
  signed_decimal (cast_signed w16 amount),
  cast_signed w16 amount,
  refl,
  writes_signed 32767 (cast_signed w16 amount) (amount_within amount h) (lit< tt),
  sym (of_z-to_z w16 amount h),
)
operand_encoded (Range low high) h = (range_text low high, refl, writes_range low high h.0 h.1)
operand_encoded (Name bytes) h = (refl, h)
operand_encoded (Text bytes) h = (refl, h)
operand_encoded (Points ps) h = (flat_map word_bytes ps, refl, points_text ps h, length-points ps, sym (words_of_bytes ps))

-- ---- all of them

pub all_printable : (os : List Operand) → AllFit os → AllPrintable (pieces_of os)
all_printable [] h = tt
all_printable (o ∷ os) h = (operand_printable o h.0, all_printable os h.1)

pub all_say : (os : List Operand) → AllFit os → AllEncode (map piece_value (pieces_of os)) os
all_say [] h = tt
all_say (o ∷ os) h = (operand_encoded o h.0, all_say os h.1)

pub both_fit : (os more : List Operand) → AllFit os → AllFit more → AllFit (os ++ more)
both_fit [] more h k = k
both_fit (o ∷ os) more h k = (h.0, both_fit os more h.1 k)
