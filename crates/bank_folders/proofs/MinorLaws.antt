-- The minor version that the text of a bank begins with.
use Rattle.std.proofs.Common.{◌≡◌, ◌≤◌, ◌<◌, ◌+◌, ◌-◌, ◌*◌, ◌^◌, ◌++◌, ℕ, true, false, cond, min, List, [], ◌∷◌, length}
use Rattle.std.proofs.Common.{take, get_or, codes, decimal, refl, ap, ◌∙◌, arith}
use Rattle.std.specs.Prelude.{take_while}
use Rattle.std.specs.List.{list_all}
use Rattle.std.proofs.lemmas.Bool.{and_parts, le-leb, lt-ltb}
use Rattle.std.proofs.lemmas.List.{append_assoc}
use Rattle.std.proofs.lemmas.List.Sums.{fold_more, take_while-cons}
use Rattle.bank_parts.specs.declared.parts.Parts.{Parts}
use Rattle.bank_parts.specs.Sound.{IsSound}
use Rattle.script_tokens.specs.Parsers.{is_digit, digits_value}
use Rattle.script_tokens.specs.Printing.{piece_text}
use Rattle.script_tokens.proofs.PieceLaws.{all_digits, some_digits, writes}
use Rattle.edit_script.specs.Printing.{texts_of}
use Rattle.script_of_bank.specs.declared.samples.SamplePoints.TheVariants.{LeftOut}
use Rattle.script_of_bank.specs.BankEdits.{edits_of_bank}
use Rattle.script_of_bank.specs.BankScript.{bank_script, first_line, with_points}
use Rattle.bank_folders.specs.Minors.{minor_with, minor_in}

-- the clipped value of digits after one more
pub clipped_on : (digits : List ℕ) (i value d : ℕ) → i < length digits
    → value ≡ min (digits_value (take i digits)) 65536
    → min (value * 10 + (get_or digits i d - 48)) 65536 ≡ min (digits_value (take (i + 1) digits)) 65536
clipped_on digits i value d h e =
    let more : digits_value (take (i + 1) digits) ≡ digits_value (take i digits) * 10 + (get_or digits i d - 48) =
    fold_more (λ (n b : ℕ). n * 10 + (b - 48)) 0 digits i d h in
    omega (arith, more, e)

-- the digits before another byte
digits_before : (digits : List ℕ) (b : ℕ) (rest : List ℕ) → list_all is_digit digits ≡ true → is_digit b ≡ false
    → take_while is_digit (digits ++ b ∷ rest) ≡ digits
digits_before [] b rest h other =
    take_while-cons is_digit b rest ∙ ap (λ t. cond t (b ∷ take_while is_digit rest) []) other
digits_before (d ∷ digits) b rest h other =
    let each = and_parts (is_digit d) (list_all is_digit digits) h in
    take_while-cons is_digit d (digits ++ b ∷ rest)
    ∙ (λ i. cond (each.0 i) (d ∷ digits_before digits b rest each.1 other i) [])

minor_is : (digits : List ℕ) (n : ℕ) → 0 < length digits → digits_value digits ≡ n → n ≤ 65535 → minor_with digits ≡ n
minor_is digits n some value low = rw (lt-ltb 0 (length digits) some, value, le-leb n 65535 low) refl

-- the text of a bank, from its minor version on
from_minor : (n : ℕ) (words texts : List ℕ) → n < 2 ^ 16
    → minor_with (take_while is_digit (decimal n ++ 32 ∷ words ++ 10 ∷ [] ++ texts)) ≡ n
from_minor n words texts h =
    let printed = decimal n in
    let parts : printed ++ 32 ∷ words ++ 10 ∷ [] ++ texts ≡ printed ++ 32 ∷ (words ++ (10 ∷ texts)) =
    append_assoc (printed ++ 32 ∷ words) (10 ∷ []) texts ∙ append_assoc printed (32 ∷ words) (10 ∷ texts) in
    ap (λ text. minor_with (take_while is_digit text)) parts
    ∙ ap minor_with (digits_before printed 32 (words ++ (10 ∷ texts)) (all_digits n (omega (arith, h))) refl)
    ∙ minor_is printed n (some_digits n (omega (arith, h))) (writes 65535 n (omega (arith, h)) (omega arith)).value
    (omega (arith, h))

-- the minor version in the first line, whatever follows it
pub first_minor : (n : ℕ) (texts : List ℕ) → n < 2 ^ 16 → minor_in (first_line LeftOut n ++ texts) ≡ n
unfolding minor_in first_line piece_text
first_minor n texts h = from_minor n (codes "without points") texts h

pub minor_read : (b : Parts) → IsSound b → minor_in (bank_script LeftOut b) ≡ b.minor
unfolding bank_script
minor_read b s = first_minor b.minor (texts_of (edits_of_bank (with_points LeftOut b))) s.fits.minor
