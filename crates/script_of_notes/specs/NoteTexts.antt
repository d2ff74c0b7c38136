-- The text of a note list.
use Rattle.std.specs.Prelude.{◌≡◌, ◌≤◌, ℕ, List, [], ◌∷◌, length, decimal, Ok}
use Rattle.std.specs.List.{flat_map, AllByRecursion}
use Rattle.script_tokens.specs.declared.printing.Piece.{Piece}
use Rattle.script_tokens.specs.declared.printing.Piece.TheVariants.{Number}
use Rattle.script_tokens.specs.Parsers.{most_word}
use Rattle.script_tokens.specs.Printing.{line_text}
use Rattle.script_notes.specs.declared.limits.TheConstants.{MOST_NOTES}
use Rattle.script_notes.specs.Notes.{Numbers, IsNote, notes_of}

-- the numbers after the start
abbrev pub note_pieces : Numbers → List Piece
note_pieces n = Number n.length ∷ Number n.bank ∷ Number n.number ∷ Number n.key ∷ Number n.velocity ∷ []

-- the line of a note, with its line feed
abbrev pub note_text : Numbers → List ℕ
note_text n = line_text (decimal n.start) (note_pieces n)

-- the lines of notes, in order
abbrev pub notes_text : List Numbers → List ℕ
notes_text ns = flat_map note_text ns

-- a note whose numbers can stand in a note list
pub record IsListed (n : Numbers) : Type 0 where
  pub note : IsNote n
  pub bank : n.bank ≤ most_word
  pub number : n.number ≤ most_word

-- the text of a note list reads as its notes
abbrev pub NotesReadBack : Type 0
NotesReadBack =
    (ns : List Numbers) → AllByRecursion IsListed ns → length ns ≤ MOST_NOTES → notes_of (notes_text ns) ≡ Ok ns
