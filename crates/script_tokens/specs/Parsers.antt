-- Parsers of the parts of a line, from left to right, up to the first fault.
use Rattle.std.specs.Prelude.{◌≡◌, ℕ, suc, ℤ, pos, neg_ℤ, ◌+◌, ◌*◌, ◌-◌, List, [], ◌∷◌, length, take, drop, bytes_eq}
use Rattle.std.specs.Prelude.{fold, Option, Some, None, option_map, Result, Ok, Err, Bool, false, ◌==◌, ◌&&◌, nat_le}
use Rattle.std.specs.Prelude.{nat_lt, if◌then◌else◌}
use Rattle.std.specs.List.{list_all}
use Rattle.script_tokens.specs.declared.cursor.TokenValue.{TokenValue}
use Rattle.script_tokens.specs.declared.cursor.TokenValue.TheVariants.{Word, Literal, Malformed}
use Rattle.script_tokens.specs.declared.fault.LineFault.{LineFault}
use Rattle.script_tokens.specs.declared.fault.LineFault.TheVariants as faults
use Rattle.script_tokens.specs.TokenValue as cursors

-- ---- a parser: a value and the rest of the line, or the first fault

-- a value that is read, and the rest of the line
pub record Parsed (X : Type 0) : Type 0 where
  pub value : X
  pub rest : List TokenValue

-- a parser of the front of a line
abbrev pub Parser : Type 0 → Type 0
Parser X = List TokenValue → Result (Parsed X) LineFault

-- the next parser, applied to the rest of the line
abbrev pub and_then : {X Y : Type 0} → Result (Parsed X) LineFault → (X → Parser Y) → Result (Parsed Y) LineFault
and_then (Ok t) f = f t.value t.rest
and_then (Err e) f = Err e

-- one parser after another
infixl 10 ◌>>=◌
abbrev pub ◌>>=◌ : {X Y : Type 0} → Parser X → (X → Parser Y) → Parser Y
(p >>= f) line = and_then (p line) f

-- the parser that consumes no token and returns this value
abbrev pub pure : {X : Type 0} → X → Parser X
pure x line = Ok (record { value = x; rest = line })

-- the value, or this fault where there is none
abbrev pub or_fault : {X : Type 0} → LineFault → Option X → Parser X
or_fault e None line = Err e
or_fault e (Some x) line = Ok (record { value = x; rest = line })

-- ---- the smallest parsers

-- a word; anything else is a fault of syntax
unfoldable pub word : Parser (List ℕ)
word [] = Err faults.Syntax
word (Word w ∷ line) = Ok (record { value = w; rest = line })
word (Literal bytes ∷ line) = Err faults.Syntax
word (Malformed ∷ line) = Err faults.Syntax

-- a literal; anything else is a fault of syntax
unfoldable pub literal : Parser (List ℕ)
literal [] = Err faults.Syntax
literal (Word w ∷ line) = Err faults.Syntax
literal (Literal bytes ∷ line) = Ok (record { value = bytes; rest = line })
literal (Malformed ∷ line) = Err faults.Syntax

-- whether the next token is this word
abbrev pub is_next : List ℕ → List TokenValue → Bool
is_next w [] = false
is_next w (Word v ∷ line) = bytes_eq v w
is_next w (Literal bytes ∷ line) = false
is_next w (Malformed ∷ line) = false

-- the line's end; a remaining token is a fault of syntax
unfoldable pub ended : {X : Type 0} → X → Parser X
ended x [] = Ok (record { value = x; rest = [] })
ended x (s ∷ line) = Err faults.Syntax

-- ---- numbers

-- a decimal digit
abbrev pub is_digit : ℕ → Bool
is_digit b = nat_le 48 b && nat_le b 57

-- the value of decimal digits
abbrev pub digits_value : List ℕ → ℕ
digits_value w = fold (λ n b. n * 10 + (b - 48)) 0 w

-- the value of 1 to 10 decimal digits, if it is within the limit
unfoldable pub number_of : ℕ → List ℕ → Option ℕ
number_of limit w =
    if nat_lt 0 (length w) && nat_le (length w) 10 && list_all is_digit w
    && nat_le (digits_value w) limit then Some (digits_value w) else None

-- a word where a number is expected: any other token is a fault of number, the line's end one of syntax
unfoldable pub number_word : Parser (List ℕ)
number_word [] = Err faults.Syntax
number_word (Word w ∷ line) = Ok (record { value = w; rest = line })
number_word (Literal bytes ∷ line) = Err faults.Number
number_word (Malformed ∷ line) = Err faults.Number

-- a word that is a number
abbrev pub numeral : {X : Type 0} → (List ℕ → Option X) → Parser X
numeral f = do
  w ← number_word
  or_fault faults.Number (f w)

-- the largest WORD, of 16 bits
abbrev pub most_word : ℕ
most_word = 65535

-- the largest DWORD, of 32 bits
abbrev pub most_double_word : ℕ
most_double_word = 4294967295

-- a number within the limit
unfoldable pub number : ℕ → Parser ℕ
number limit = numeral (number_of limit)

-- the value of digits with an optional `-`, from minus the limit minus 1 up to the limit
unfoldable pub signed_of : ℕ → List ℕ → Option ℤ
signed_of limit [] = None
signed_of limit (b ∷ w) =
    if b == 45 then option_map (λ n. neg_ℤ (pos n)) (number_of (limit + 1) w) else option_map pos
    (number_of limit (b ∷ w))

-- a signed number
unfoldable pub signed : ℕ → Parser ℤ
signed limit = numeral (signed_of limit)

-- whether a word begins with `..`
abbrev pub is_dots : List ℕ → Bool
is_dots [] = false
is_dots (b ∷ []) = false
is_dots (b ∷ c ∷ w) = b == 46 && c == 46

-- the position of the first `..`, or the length where there is none
abbrev pub dots_at : List ℕ → ℕ
dots_at [] = 0
dots_at (b ∷ w) = if is_dots (b ∷ w) then 0 else suc (dots_at w)

-- the pair of two numbers, if both exist
abbrev pub both_of : Option ℕ → Option ℕ → Option (ℕ × ℕ)
both_of None high = None
both_of (Some low) None = None
both_of (Some low) (Some high) = Some (low, high)

-- `LO..HI`, split at its first `..`, where each end is a number up to 255
unfoldable pub range_of : List ℕ → Option (ℕ × ℕ)
range_of w = both_of (number_of 255 (take (dots_at w) w)) (number_of 255 (drop (dots_at w + 2) w))

-- a range, in one token
unfoldable pub range : Parser (ℕ × ℕ)
range = numeral range_of

-- ---- names

-- at most 20 bytes, none of them zero
abbrev pub is_name : List ℕ → Bool
is_name bytes = nat_le (length bytes) 20 && list_all (λ b. nat_lt 0 b) bytes

-- the name with these bytes, if they are a valid name
unfoldable pub name_of : List ℕ → Option (List ℕ)
name_of bytes = if is_name bytes then Some bytes else None

-- a literal whose bytes are a valid name
unfoldable pub name : Parser (List ℕ)
name = do
  bytes ← literal
  or_fault faults.Literal (name_of bytes)

-- ---- the contract of a function that implements a parser

-- the function returns the parser's value or fault; on a value, it leaves the rest of the line, and the same pool
abbrev pub Reads : {X Y : Type 0} → (X → Y) → Parser Y → cursors.CursorState → cursors.CursorState → Result X LineFault → Type 0
Reads view part old new (Ok x) =
    (part old.token_values ≡ Ok (record { value = view x; rest = new.token_values })) × (new.pool ≡ old.pool)
Reads view part old new (Err e) = part old.token_values ≡ Err e
