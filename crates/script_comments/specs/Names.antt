-- The names of members and of operators.
use Rattle.std.specs.Prelude.{ℕ, List, [], ◌∷◌, ◌==◌, map, find, Option, Some, None, slice_get}
use Rattle.std.specs.Option.{option_map}
use Rattle.generators.specs.declared.level.Level.{Level}
use Rattle.generators.specs.declared.level.Level.TheVariants as level
use Rattle.generator_rows.specs.declared.row.GeneratorRow.{GeneratorRow}
use Rattle.generator_rows.specs.declared.rows.TheConstants.{ROWS}
use Rattle.generator_rows.specs.Rows.{without_blanks}
use Rattle.bank_parts.specs.declared.parts.Head.{Head}
use Rattle.bank_parts.specs.declared.parts.Sample.{Sample}
use Rattle.bank_parts.specs.declared.parts.Parts.{Parts}
use Rattle.bank_changes.specs.Members.{head_of, instrument_name_of}
use Rattle.script_tokens.specs.declared.printing.Piece.{Piece}
use Rattle.script_tokens.specs.declared.printing.Piece.TheVariants.{Number, Word, Name}
use Rattle.script_comments.specs.declared.names.Member.{Member}
use Rattle.script_comments.specs.declared.names.Member.TheVariants as member

-- what there is, as a list
abbrev pub each_of : {X : Type 0} → Option X → List X
each_of None = []
each_of (Some x) = x ∷ []

-- ---- members

-- the number of a member in its list
abbrev pub number_of : Member → ℕ
number_of (member.Preset n) = n
number_of (member.Instrument n) = n
number_of (member.Sample n) = n

-- the name of a member of a bank; none if there is no such member
abbrev pub name_of : Parts → Member → Option (List ℕ)
name_of b (member.Preset n) = option_map (λ (h : Head). h.name) (head_of b n)
name_of b (member.Instrument n) = instrument_name_of b n
name_of b (member.Sample n) = option_map (λ (s : Sample). s.name) (slice_get b.samples n)

-- the member that a zone of this level targets
abbrev pub target_of : Level → ℕ → Member
target_of level.Preset n = member.Instrument n
target_of level.Inst n = member.Sample n

-- an item of a name
abbrev pub name_item : List ℕ → List Piece
name_item name = Name name ∷ []

-- an item of a number and a name
abbrev pub numbered_item : ℕ → List ℕ → List Piece
numbered_item number name = Number number ∷ Name name ∷ []

-- the name of a member
abbrev pub named : Parts → Member → List (List Piece)
named b m = map name_item (each_of (name_of b m))

-- the number and the name of a member
abbrev pub numbered : Parts → Member → List (List Piece)
numbered b m = map (numbered_item (number_of m)) (each_of (name_of b m))

-- ---- operators

-- the row of an operator in the table of the generators; none if a zone can't have it
abbrev pub row_with : ℕ → Option GeneratorRow
row_with op = find (λ row. row.number == op) ROWS

-- an item of an operator's name
abbrev pub operator_item : GeneratorRow → List Piece
operator_item row = Word (without_blanks row.name) ∷ []

-- an item of an operator's number and name
abbrev pub numbered_operator : GeneratorRow → List Piece
numbered_operator row = Number row.number ∷ Word (without_blanks row.name) ∷ []

-- the name of an operator
abbrev pub named_operator : ℕ → List (List Piece)
named_operator op = map operator_item (each_of (row_with op))
