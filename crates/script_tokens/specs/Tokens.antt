-- The tokens of a line.
use Rattle.std.specs.Prelude.{ℕ, zero, suc, List, [], ◌∷◌, length, drop, Option, Some, None, Bool, true, ◌==◌, ◌||◌}
use Rattle.std.specs.Prelude.{◌&&◌, nat_lt, if◌then◌else◌}
use Rattle.std.specs.List.{before_first, after_first, position_or_len, prefix_len}
use Rattle.script_tokens.specs.declared.tokens.Token.{Token}
use Rattle.script_tokens.specs.declared.tokens.Token.TheVariants.{Plain, Quoted, Broken}

-- a space, a tab or a carriage return
abbrev pub is_blank : ℕ → Bool
is_blank b = b == 32 || b == 9 || b == 13

-- a quote
abbrev pub is_quote : ℕ → Bool
is_quote b = b == 34

-- the line after its leading blanks
unfoldable pub after_blanks : List ℕ → List ℕ
after_blanks line = drop (prefix_len is_blank line) line

-- a token, and the bytes of the line after it
pub record FirstToken : Type 0 where
  pub token : Token
  pub after : List ℕ

-- a closing quote is followed by a blank, or by nothing
abbrev pub ends_well : List ℕ → Bool
ends_well [] = true
ends_well (b ∷ line) = is_blank b

-- the token after an opening quote: it runs to the next quote
unfoldable pub quoted_at : List ℕ → FirstToken
quoted_at line =
    if nat_lt (position_or_len is_quote line) (length line)
    && ends_well (after_first is_quote line) then record
    { token = Quoted (before_first is_quote line); after = after_first is_quote line }
    else record { token = Broken; after = [] }

-- a token that runs to the next blank
unfoldable pub plain_at : ℕ → List ℕ → FirstToken
plain_at b line =
    record { token = Plain (b ∷ before_first is_blank line); after = drop (position_or_len is_blank line) line }

-- the first token of a line without leading blanks: none at the line's end or at a comment, which `#` begins
unfoldable pub token_at : List ℕ → Option FirstToken
token_at [] = None
token_at (b ∷ line) = if b == 35 then None else if is_quote b then Some (quoted_at line) else Some (plain_at b line)

-- a token, and the tokens of the bytes after it
abbrev pub and_tokens_after : Option FirstToken → (List ℕ → List Token) → List Token
and_tokens_after None tokens = []
and_tokens_after (Some f) tokens = f.token ∷ tokens f.after

-- the tokens, at most n of them
unfoldable pub tokens_for : ℕ → List ℕ → List Token
tokens_for zero line = []
tokens_for (suc n) line = and_tokens_after (token_at (after_blanks line)) (λ rest. tokens_for n rest)

-- the tokens of a line, which has at least one byte for each
unfoldable pub tokens_of : List ℕ → List Token
tokens_of line = tokens_for (length line) line
