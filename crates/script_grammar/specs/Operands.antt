-- Operands, each one token of a line: the values that a token of it may have, and the piece that is printed for it.
use Rattle.std.specs.Prelude.{◌≡◌, ◌%◌, ℕ, ℤ, List, [], ◌∷◌, length, map}
use Rattle.std.specs.Int.{w16, cast_signed, cast_unsigned}
use Rattle.std.specs.List.{flat_map}
use Rattle.sf_base.specs.Names.{IsName}
use Rattle.sample_view.specs.Words.{words, word_bytes}
use Rattle.bank_parts.specs.Fits.{FitsText}
use Rattle.script_tokens.specs.declared.cursor.TokenValue.{TokenValue}
use Rattle.script_tokens.specs.declared.cursor.TokenValue.TheVariants.{Word, Literal}
use Rattle.script_tokens.specs.declared.printing.Piece.{Piece}
use Rattle.script_tokens.specs.declared.printing.Piece.TheVariants as piece
use Rattle.script_tokens.specs.TextForm.{Writes, WritesSigned, WritesRange}

-- an operand: a fixed word, a number up to a limit, a signed number from minus the limit minus 1 up to the
-- limit, a signed number of 16 bits as its WORD, the ends of a range, a name, a text, points as WORDs of 16
-- bits
pub data Operand : Type 0 where
  Fixed : List ℕ → Operand
  Number : ℕ → ℕ → Operand
  Signed : ℕ → ℤ → Operand
  Amount : ℕ → Operand
  Range : ℕ → ℕ → Operand
  Name : List ℕ → Operand
  Text : List ℕ → Operand
  Points : List ℕ → Operand

-- a token's value encodes this operand
abbrev pub Encodes : TokenValue → Operand → Type 0
Encodes s (Fixed w) = s ≡ Word w
Encodes s (Number limit n) = (w : List ℕ) × (s ≡ Word w) × Writes limit w n
Encodes s (Signed limit z) = (w : List ℕ) × (s ≡ Word w) × WritesSigned limit w z
Encodes s (Amount amount) = (w : List ℕ) × (z : ℤ) × (s ≡ Word w) × WritesSigned 32767 w z × (amount ≡ cast_unsigned w16 z)
Encodes s (Range low high) = (w : List ℕ) × (s ≡ Word w) × WritesRange w low high
Encodes s (Name bytes) = (s ≡ Literal bytes) × IsName bytes
Encodes s (Text bytes) = (s ≡ Literal bytes) × FitsText bytes
Encodes s (Points ps) =
    (bytes : List ℕ) × (s ≡ Literal bytes) × FitsText bytes × (length bytes % 2 ≡ 0) × (ps ≡ words bytes)

-- the values of tokens encode these operands, one by one
abbrev pub AllEncode : List TokenValue → List Operand → Type 0
AllEncode [] [] = Unit {0}
AllEncode [] (o ∷ os) = ⊥
AllEncode (s ∷ token_values) [] = ⊥
AllEncode (s ∷ token_values) (o ∷ os) = Encodes s o × AllEncode token_values os

-- the piece that is printed for an operand
abbrev pub piece_of : Operand → Piece
piece_of (Fixed w) = piece.Word w
piece_of (Number limit n) = piece.Number n
piece_of (Signed limit z) = piece.Signed z
piece_of (Amount amount) = piece.Signed (cast_signed w16 amount)
piece_of (Range low high) = piece.Range low high
piece_of (Name bytes) = piece.Name bytes
piece_of (Text bytes) = piece.Name bytes
piece_of (Points ps) = piece.Hex (flat_map word_bytes ps)

-- the pieces that are printed for operands
abbrev pub pieces_of : List Operand → List Piece
pieces_of os = map piece_of os
