-- The pieces of a printed line.
use Rattle.std.specs.Prelude.{ℕ, List, [], ◌∷◌, ◌++◌, map, decimal, Bool, not, ◌&&◌, if◌then◌else◌}
use Rattle.std.specs.Fmt.{signed_decimal}
use Rattle.std.specs.List.{list_all, join_with_byte}
use Rattle.hex.specs.Hex.{encode_lower}
use Rattle.script_tokens.specs.declared.printing.Piece.{Piece}
use Rattle.script_tokens.specs.declared.printing.Piece.TheVariants.{Number, Signed, Range, Word, Name, Hex}
use Rattle.script_tokens.specs.Tokens.{is_quote}
use Rattle.script_tokens.specs.TokenValue.{is_plain}

-- a byte that is itself between quotes
abbrev pub is_quotable : ℕ → Bool
is_quotable b = is_plain b && not (is_quote b)

-- `x`, and two hex digits for each byte
abbrev pub hex_literal : List ℕ → List ℕ
hex_literal bytes = 120 ∷ encode_lower bytes

-- the bytes between quotes where all may be quoted, else in hex digits
unfoldable pub name_text : List ℕ → List ℕ
name_text bytes = if list_all is_quotable bytes then 34 ∷ bytes ++ 34 ∷ [] else hex_literal bytes

-- the text form of a piece: a number has no leading zeros, `..` is between the ends of a range, a word is unchanged
unfoldable pub piece_text : Piece → List ℕ
piece_text (Number n) = decimal n
piece_text (Signed z) = signed_decimal z
piece_text (Range low high) = decimal low ++ 46 ∷ 46 ∷ decimal high
piece_text (Word bytes) = bytes
piece_text (Name bytes) = name_text bytes
piece_text (Hex bytes) = hex_literal bytes

-- a piece after a space
abbrev pub spaced : Piece → List ℕ
spaced p = 32 ∷ piece_text p

-- the tokens of a line, with one space between each two, and a line feed
abbrev pub line_text : List ℕ → List Piece → List ℕ
line_text word pieces = join_with_byte 32 (word ∷ map piece_text pieces) ++ 10 ∷ []
