-- The value of a token: a word, the bytes of a literal, or a malformed literal.
use Rattle.std.specs.Prelude.{ℕ, List, [], ◌∷◌, length, take, drop, map, Option, Some, None, Result, Ok, Err, Bool}
use Rattle.std.specs.Prelude.{false, ◌==◌, ◌&&◌, ◌-◌, ◌/◌, nat_le, if◌then◌else◌}
use Rattle.std.specs.List.{list_all}
use Rattle.hex.specs.Hex.{decode_of}
use Rattle.script_tokens.specs.declared.tokens.Token.{Token}
use Rattle.script_tokens.specs.declared.tokens.Token.TheVariants.{Plain, Quoted, Broken}
use Rattle.script_tokens.specs.declared.cursor.TokenValue.{TokenValue}
use Rattle.script_tokens.specs.declared.cursor.TokenValue.TheVariants.{Word, Literal, Malformed}
use Rattle.script_tokens.specs.Lines.{lines_of}
use Rattle.script_tokens.specs.Tokens.{tokens_of}

-- a byte that may be between quotes, from 0x20 to 0x7e
abbrev pub is_plain : ℕ → Bool
is_plain b = nat_le 32 b && nat_le b 126

-- `x` begins a literal in hex digits
abbrev pub is_hex : List ℕ → Bool
is_hex [] = false
is_hex (b ∷ word) = b == 120

-- the bytes that hex digits encode, if they are well formed
abbrev pub decoded : {E : Type 0} → Result (List ℕ) E → TokenValue
decoded (Ok bytes) = Literal bytes
decoded (Err e) = Malformed

-- the value of a token
unfoldable pub token_value : Token → TokenValue
token_value (Plain word) = if is_hex word then decoded (decode_of (drop 1 word)) else Word word
token_value (Quoted inside) = if list_all is_plain inside then Literal inside else Malformed
token_value Broken = Malformed

-- the values of a line's tokens
abbrev pub values_in : List ℕ → List TokenValue
values_in line = map token_value (tokens_of line)

-- the values of each line of a text
abbrev pub values_of_lines : List ℕ → List (List TokenValue)
values_of_lines text = map values_in (lines_of text)

-- ---- the same, where the bytes of the literals are in a pool, one literal after another

-- how many bytes of the pool belong to a token
unfoldable pub size_of : Token → ℕ
size_of (Plain word) = if is_hex word then (length word - 1) / 2 else 0
size_of (Quoted inside) = length inside
size_of Broken = 0

-- the value of a token whose literal is at the front of the pool
unfoldable pub value_over : List ℕ → Token → TokenValue
value_over pool (Plain word) = if is_hex word then Literal (take (size_of (Plain word)) pool) else Word word
value_over pool (Quoted inside) = Literal (take (size_of (Quoted inside)) pool)
value_over pool Broken = Malformed

-- the values of tokens over a pool, each over the rest of the pool that the earlier tokens leave
abbrev pub values_over : List ℕ → List Token → List TokenValue
values_over pool [] = []
values_over pool (t ∷ ts) = value_over pool t ∷ values_over (drop (size_of t) pool) ts

-- the pool after the bytes of these tokens
abbrev pub pool_after : List ℕ → List Token → List ℕ
pool_after pool [] = pool
pool_after pool (t ∷ ts) = pool_after (drop (size_of t) pool) ts

-- the values of each line over a pool
abbrev pub line_values_over : List ℕ → List (List ℕ) → List (List TokenValue)
line_values_over pool [] = []
line_values_over pool (l ∷ ls) = values_over pool (tokens_of l) ∷ line_values_over (pool_after pool (tokens_of l)) ls

-- the remaining values of a line, and the pool after the line
pub record CursorState : Type 0 where
  pub token_values : List TokenValue
  pub pool : List ℕ

-- the state of a cursor with these remaining tokens
abbrev pub cursor_over : List ℕ → List Token → CursorState
cursor_over pool ts = record { token_values = values_over pool ts; pool = pool_after pool ts }

-- the first token, if there is one, and the tokens after it
abbrev pub all_tokens : Option Token → List Token → List Token
all_tokens None ts = []
all_tokens (Some t) ts = t ∷ ts
