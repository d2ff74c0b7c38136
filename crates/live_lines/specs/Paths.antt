-- The paths in a line.
use Rattle.std.specs.Prelude.{ℕ, List, [], ◌∷◌, Option, Some, None, Err, Bool, ◌&&◌, nat_le, if◌then◌else◌}
use Rattle.std.specs.List.{list_all}
use Rattle.std.specs.Str.{is_utf8}
use Rattle.script_tokens.specs.declared.cursor.TokenValue.TheVariants.{Word, Literal, Malformed}
use Rattle.script_tokens.specs.declared.fault.LineFault.TheVariants as faults
use Rattle.script_tokens.specs.Parsers.{Parser, ◌>>=◌, or_fault, ended}
use Rattle.live_lines.specs.declared.paths.Paths.{Paths}

-- UTF-8 without control characters
abbrev pub is_path : List ℕ → Bool
is_path bytes = is_utf8 bytes && list_all (λ b. nat_le 32 b) bytes

-- the path with these bytes, if they are one
unfoldable pub path_of : List ℕ → Option (List ℕ)
path_of bytes = if is_path bytes then Some bytes else None

-- a path, in a word or in a literal
unfoldable pub path : Parser (List ℕ)
path [] = Err faults.Syntax
path (Word w ∷ line) = or_fault faults.Syntax (path_of w) line
path (Literal bytes ∷ line) = or_fault faults.Literal (path_of bytes) line
path (Malformed ∷ line) = Err faults.Syntax

-- one path, to the line's end
unfoldable pub one_path : Parser (List ℕ)
one_path = do
  p ← path
  ended p

-- the paths of the bank and of the undo script, to the line's end
unfoldable pub paths : Parser Paths
paths = do
  o ← path
  u ← path
  ended (record { out = o; undo = u })
