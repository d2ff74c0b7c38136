-- Comments at the ends of lines: items, each of them tokens, before which there is a space.
use Rattle.std.specs.Prelude.{ℕ, List, [], ◌∷◌, ◌++◌, codes, Bool, true, false, if◌then◌else◌}
use Rattle.std.specs.List.{flat_map}
use Rattle.script_tokens.specs.declared.printing.Piece.{Piece}
use Rattle.script_tokens.specs.Printing.{spaced}

-- what is before an item: blanks and `#` before the first, a comma before each other if the comment has commas
abbrev pub lead_text : Bool → Bool → List ℕ
lead_text is_begun has_commas = if is_begun then (if has_commas then codes "," else []) else codes "   #"

-- items, of which the first begins the comment unless it is begun
abbrev pub items_text : Bool → Bool → List (List Piece) → List ℕ
items_text is_begun has_commas [] = []
items_text is_begun has_commas (item ∷ items) =
    lead_text is_begun has_commas ++ (flat_map spaced item ++ items_text true has_commas items)

-- a comment of items; none of no items
abbrev pub comment_text : Bool → List (List Piece) → List ℕ
comment_text has_commas items = items_text false has_commas items
