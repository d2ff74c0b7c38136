-- The grammar of lines, tokens, blanks and comments, as a relation of bytes and values that no reader defines.
use Rattle.std.specs.Prelude.{◌≡◌, ◌≤◌, ◌<◌, ◌⊎◌, ℕ, ℤ, pos, negsuc, neg_ℤ, ◌+◌, List, [], ◌∷◌, ◌++◌, length, Ok}
use Rattle.std.specs.Prelude.{Bool, true, false, not, IsTrue, ◌==◌, ◌&&◌}
use Rattle.std.specs.List.{list_all}
use Rattle.hex.specs.Hex.{decode_of}
use Rattle.script_tokens.specs.declared.cursor.TokenValue.{TokenValue}
use Rattle.script_tokens.specs.declared.cursor.TokenValue.TheVariants.{Word, Literal, Malformed}
use Rattle.script_tokens.specs.Tokens.{is_blank, is_quote, ends_well}
use Rattle.script_tokens.specs.Parsers.{is_digit, digits_value}
use Rattle.script_tokens.specs.Printing.{is_quotable}

-- ---- tokens

-- no space, tab or carriage return
abbrev pub not_blank : ℕ → Bool
not_blank b = not (is_blank b)

-- bytes without a blank, of which the first begins neither a comment nor a literal
abbrev pub is_word : List ℕ → Bool
is_word [] = false
is_word (b ∷ w) = not (b == 35) && not (is_quote b) && not (b == 120) && not_blank b && list_all not_blank w

-- bytes between quotes, none of which needs hex digits
abbrev pub IsQuoted : List ℕ → List ℕ → Type 0
IsQuoted token bytes = (token ≡ 34 ∷ bytes ++ 34 ∷ []) × IsTrue (list_all is_quotable bytes)

-- `x`, and two hex digits of either case for each byte
pub record IsDigits (token bytes : List ℕ) : Type 0 where
  pub digits : List ℕ
  pub parts : token ≡ 120 ∷ digits
  pub value : decode_of digits ≡ Ok bytes

-- a token has this value
abbrev pub Shows : List ℕ → TokenValue → Type 0
Shows token (Word w) = (token ≡ w) × IsTrue (is_word w)
Shows token (Literal bytes) = IsQuoted token bytes ⊎ IsDigits token bytes
Shows token Malformed = ⊥

-- ---- lines

-- the line's end, or a comment
abbrev pub is_silent : List ℕ → Bool
is_silent [] = true
is_silent (b ∷ line) = b == 35

-- blanks, and then the line's end or a comment
pub record HasNoTokens (line : List ℕ) : Type 0 where
  pub blanks : List ℕ
  pub rest : List ℕ
  pub parts : line ≡ blanks ++ rest
  pub blank : IsTrue (list_all is_blank blanks)
  pub silent : IsTrue (is_silent rest)

-- blanks, a token of this value, and then a blank or the line's end
pub record Begins (line : List ℕ) (shown : TokenValue) (after : List ℕ) : Type 0 where
  pub blanks : List ℕ
  pub token : List ℕ
  pub parts : line ≡ blanks ++ (token ++ after)
  pub blank : IsTrue (list_all is_blank blanks)
  pub shows : Shows token shown
  pub apart : IsTrue (ends_well after)

-- a line has these values, token by token
abbrev pub LineHasValues : List ℕ → List TokenValue → Type 0
LineHasValues line [] = HasNoTokens line
LineHasValues line (s ∷ shown) = (after : List ℕ) × Begins line s after × LineHasValues after shown

-- ---- numbers

-- 1 to 10 decimal digits, of a number within the limit
pub record Writes (limit : ℕ) (word : List ℕ) (n : ℕ) : Type 0 where
  pub some : 0 < length word
  pub few : length word ≤ 10
  pub digits : IsTrue (list_all is_digit word)
  pub value : digits_value word ≡ n
  pub within : n ≤ limit

-- `-`, and the digits of a number up to the limit plus 1
pub record WritesMinus (limit : ℕ) (word : List ℕ) (z : ℤ) : Type 0 where
  pub digits : List ℕ
  pub number : ℕ
  pub parts : word ≡ 45 ∷ digits
  pub writes : Writes (limit + 1) digits number
  pub value : z ≡ neg_ℤ (pos number)

-- digits without a sign
pub record WritesPlus (limit : ℕ) (word : List ℕ) (z : ℤ) : Type 0 where
  pub number : ℕ
  pub writes : Writes limit word number
  pub value : z ≡ pos number

-- a signed number, with or without `-`
abbrev pub WritesSigned : ℕ → List ℕ → ℤ → Type 0
WritesSigned limit word z = WritesMinus limit word z ⊎ WritesPlus limit word z

-- a number up to 255, `..`, and another
pub record WritesRange (word : List ℕ) (low high : ℕ) : Type 0 where
  pub before : List ℕ
  pub bytes_after : List ℕ
  pub parts : word ≡ before ++ 46 ∷ 46 ∷ bytes_after
  pub writes_low : Writes 255 before low
  pub writes_high : Writes 255 bytes_after high

-- from minus the limit minus 1 up to the limit
abbrev pub IsWithin : ℕ → ℤ → Type 0
IsWithin limit (pos n) = n ≤ limit
IsWithin limit (negsuc n) = n ≤ limit
