-- The rows of a table, or its first fault.
use Rattle.std.specs.Prelude.{ℕ, suc, List, [], ◌∷◌, ◌++◌, length, Option, Some, None, Result, Ok, Err, nat_le}
use Rattle.std.specs.Prelude.{if◌then◌else◌}
use Rattle.std.specs.Str.{is_utf8}
use Rattle.script_tokens.specs.declared.tokens.Token.{Token}
use Rattle.script_tokens.specs.declared.tokens.Token.TheVariants.{Plain, Quoted, Broken}
use Rattle.script_tokens.specs.declared.fault.LineFault.{LineFault}
use Rattle.script_tokens.specs.Lines.{lines_of}
use Rattle.script_tokens.specs.Tokens.{FirstToken, token_at, after_blanks}
use Rattle.script_tokens.specs.TokenValue.{values_in}
use Rattle.script_tokens.specs.Parsers.{Parsed}
use Rattle.script_tokens.specs.Pool.{and_then}
use Rattle.kit_tables.specs.declared.limits.TheConstants.{MOST_ROWS}
use Rattle.kit_tables.specs.declared.zone.KitZone.{KitZone}
use Rattle.kit_tables.specs.declared.row.KitRow.{KitRow}
use Rattle.kit_tables.specs.declared.fault.KitFault.{KitFault}
use Rattle.kit_tables.specs.declared.fault.KitFault.TheVariants as faults
use Rattle.kit_tables.specs.ZoneParsers.{zone}

-- ---- a row

-- a line of a table: its number, the bytes of its path, and its zone
pub record Row : Type 0 where
  pub line : ℕ
  pub file : List ℕ
  pub zone : KitZone

-- the row of the code, with the bytes of its path
abbrev pub row_of : KitRow → Row
row_of row = record { line = row.line; file = row.file.now; zone = row.zone }

-- a value, or the first fault of a table
abbrev pub KitResult : Type 0 → Type 0
KitResult X = Result X KitFault

-- ---- the row of a line

-- the path with these bytes, if they are UTF-8 and not empty
unfoldable pub path_of : List ℕ → Option (List ℕ)
path_of [] = None
path_of (b ∷ bytes) = if is_utf8 (b ∷ bytes) then Some (b ∷ bytes) else None

-- the path that a token has: a word, or the bytes between quotes
unfoldable pub file_of : Token → Option (List ℕ)
file_of (Plain w) = path_of w
file_of (Quoted inside) = path_of inside
file_of Broken = None

-- the row of line n with this path and zone, if the line has both
abbrev pub row_with : ℕ → Option (List ℕ) → Result (Parsed KitZone) LineFault → Option Row
row_with n None r = None
row_with n (Some file) (Err e) = None
row_with n (Some file) (Ok t) = Some (record { line = n; file = file; zone = t.value })

-- the row of line n: a path, and a zone in the rest of the line
unfoldable pub row : ℕ → FirstToken → Option Row
row n first = row_with n (file_of first.token) (zone (values_in first.after))

-- the row of line n, after k rows, if there is room for it
abbrev pub row_after : ℕ → ℕ → Option Row → KitResult Row
row_after k n None = Err (faults.BadRow n)
row_after k n (Some r) = if nat_le MOST_ROWS k then Err (faults.TooManyRows n) else Ok r

-- ---- the rows of a text

-- a line with tokens: its number, and its first token with the rest of the line
pub record TokenLine : Type 0 where
  pub line : ℕ
  pub first : FirstToken

-- line n, if it has a first token, before other lines
abbrev pub and_lines : ℕ → Option FirstToken → List TokenLine → List TokenLine
and_lines n None lines = lines
and_lines n (Some first) lines = record { line = n; first = first } ∷ lines

-- the lines with tokens, of which the first line has the number n
unfoldable pub token_lines : ℕ → List (List ℕ) → List TokenLine
token_lines n [] = []
token_lines n (l ∷ lines) = and_lines n (token_at (after_blanks l)) (token_lines (suc n) lines)

-- the rows of such lines, after k rows, or the first fault
unfoldable pub rows_after : ℕ → List TokenLine → KitResult (List Row)
rows_after k [] = Ok []
rows_after k (s ∷ lines) =
    and_then (row_after k s.line (row s.line s.first)) (λ x. and_then (rows_after (suc k) lines) (λ xs. Ok (x ∷ xs)))

-- the rows, of which there must be one
abbrev pub at_least_one : List Row → KitResult (List Row)
at_least_one [] = Err (faults.NoRows 1)
at_least_one (x ∷ xs) = Ok (x ∷ xs)

-- the rows of a text, one for each line with tokens, or the first fault
unfoldable pub rows_of : List ℕ → KitResult (List Row)
rows_of text = and_then (rows_after 0 (token_lines 1 (lines_of text))) at_least_one

-- ---- one more row

-- the rows, and the row of line n if the line has a first token
abbrev pub with_first : ℕ → Option FirstToken → List Row → KitResult (List Row)
with_first n None rows = Ok rows
with_first n (Some first) rows = and_then (row_after (length rows) n (row n first)) (λ x. Ok (rows ++ x ∷ []))

-- the rows, and the row of line n if the line has tokens
abbrev pub with_row : ℕ → List ℕ → List Row → KitResult (List Row)
with_row n line rows = with_first n (token_at (after_blanks line)) rows
