-- The minor version that a text begins with.
use Rattle.std.specs.Prelude.{◌&&◌, if◌then◌else◌, nat_eq, nat_le, nat_lt, ℕ, Bool, codes, List, length, drop}
use Rattle.std.specs.Prelude.{take_while}
use Rattle.std.specs.List.{starts_with}
use Rattle.script_tokens.specs.Parsers.{is_digit, digits_value}
use Rattle.bank_folders.specs.declared.minor.TheConstants.{DEFAULT_MINOR, HIGHEST_MINOR, BEGINNING_LENGTH}

-- the text begins with the command that creates a bank, as a comment
abbrev pub begins_with_minor : List ℕ → Bool
begins_with_minor text = starts_with nat_eq text (codes "# sfbank new --minor ")

-- the decimal digits that follow it
abbrev pub minor_digits : List ℕ → List ℕ
minor_digits text = take_while is_digit (drop BEGINNING_LENGTH text)

-- the value of digits, if there are any and it is a word of 16 bits
abbrev pub minor_with : List ℕ → ℕ
minor_with digits =
    if nat_lt 0 (length digits) && nat_le (digits_value digits) HIGHEST_MINOR then digits_value digits
    else DEFAULT_MINOR

-- the minor version of the bank that a text lists; that of a new bank if the text has none
unfoldable pub minor_in : List ℕ → ℕ
minor_in text = if begins_with_minor text then minor_with (minor_digits text) else DEFAULT_MINOR
