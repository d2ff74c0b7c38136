-- Notes, and the notes of a text or its first fault.
use Rattle.std.specs.Prelude.{◌≤◌, ℕ, suc, ◌+◌, List, [], ◌∷◌, ◌++◌, length, Option, Some, None, Result, Ok, Err}
use Rattle.std.specs.Prelude.{nat_le, ◌&&◌, if◌then◌else◌}
use Rattle.script_tokens.specs.declared.cursor.TokenValue.{TokenValue}
use Rattle.script_tokens.specs.declared.fault.LineFault.{LineFault}
use Rattle.script_tokens.specs.TokenValue.{values_of_lines}
use Rattle.script_tokens.specs.Parsers.{Parsed, Parser, ◌>>=◌, pure, most_word, most_double_word, number, ended}
use Rattle.script_tokens.specs.Pool.{and_then}
use Rattle.script_notes.specs.declared.limits.TheConstants.{MOST_NOTES, LAST_FRAME, HIGHEST_KEY, HIGHEST_VELOCITY}
use Rattle.script_notes.specs.declared.fault.NoteFault.{NoteFault}
use Rattle.script_notes.specs.declared.fault.NoteFault.TheVariants as faults

-- ---- a note

-- the numbers of a note: its start and length in frames, the bank number and number of its preset, its key
-- and velocity
pub record Numbers : Type 0 where
  pub start : ℕ
  pub length : ℕ
  pub bank : ℕ
  pub number : ℕ
  pub key : ℕ
  pub velocity : ℕ

-- the numbers are within the limits of a note
pub record IsNote (n : Numbers) : Type 0 where
  pub ends : n.start + n.length ≤ LAST_FRAME
  pub key : n.key ≤ HIGHEST_KEY
  pub velocity : n.velocity ≤ HIGHEST_VELOCITY

-- the note with these numbers, if they are within the limits
unfoldable pub note_of : Numbers → Option Numbers
note_of n =
    if nat_le (n.start + n.length) LAST_FRAME && nat_le n.key HIGHEST_KEY
    && nat_le n.velocity HIGHEST_VELOCITY then Some n else None

-- a value, or the first fault of a note list
abbrev pub NoteResult : Type 0 → Type 0
NoteResult X = Result X NoteFault

-- ---- the note of a line

-- six numbers and the line's end: a note, or none if it ends too late
unfoldable pub note : Parser (Option Numbers)
note = do
  s ← number most_double_word
  l ← number most_double_word
  b ← number most_word
  n ← number most_word
  k ← number HIGHEST_KEY
  v ← number HIGHEST_VELOCITY
  u ← ended (tt {0})
  pure (note_of (record { start = s; length = l; bank = b; number = n; key = k; velocity = v }))

-- the note of line n, after k notes; a note that ends too late is a fault
abbrev pub in_time : ℕ → ℕ → Option Numbers → NoteResult Numbers
in_time k n None = Err (faults.TooLong n)
in_time k n (Some x) = if nat_le MOST_NOTES k then Err (faults.TooManyNotes n) else Ok x

-- the note that is read from line n, after k notes, or the line's fault
abbrev pub note_of_line : ℕ → ℕ → Result (Parsed (Option Numbers)) LineFault → NoteResult Numbers
note_of_line k n (Err e) = Err (faults.BadNote n)
note_of_line k n (Ok t) = in_time k n t.value

-- ---- the notes of a text

-- a line with tokens, and its number
pub record TokenLine : Type 0 where
  pub line : ℕ
  pub token_values : List TokenValue

-- the lines with tokens, of which the first line has the number n
unfoldable pub token_lines : ℕ → List (List TokenValue) → List TokenLine
token_lines n [] = []
token_lines n ([] ∷ lines) = token_lines (suc n) lines
token_lines n ((s ∷ token_values) ∷ lines) = record { line = n; token_values = s ∷ token_values } ∷ token_lines (suc n) lines

-- the notes of such lines, after k notes, or the first fault
unfoldable pub notes_after : ℕ → List TokenLine → NoteResult (List Numbers)
notes_after k [] = Ok []
notes_after k (s ∷ lines) =
    and_then (note_of_line k s.line (note s.token_values)) (λ x. and_then (notes_after (suc k) lines) (λ xs. Ok (x ∷ xs)))

-- the notes of a text, one for each line with tokens, or the first fault
unfoldable pub notes_of : List ℕ → NoteResult (List Numbers)
notes_of text = notes_after 0 (token_lines 1 (values_of_lines text))

-- ---- one more note

-- the notes, and the note of line n if the line has tokens
abbrev pub with_note : ℕ → List TokenValue → List Numbers → NoteResult (List Numbers)
with_note n [] notes = Ok notes
with_note n (s ∷ token_values) notes = and_then (note_of_line (length notes) n (note (s ∷ token_values))) (λ x. Ok (notes ++ x ∷ []))
