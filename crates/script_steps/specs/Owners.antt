-- Owners of zones, and places in them: their operands on a line, and their parsers.
use Rattle.std.specs.Prelude.{ℕ, List, [], ◌∷◌, ◌++◌, codes, if◌then◌else◌}
use Rattle.bank_changes.specs.declared.members.Owner.{Owner}
use Rattle.bank_changes.specs.declared.members.Owner.TheVariants as owner
use Rattle.bank_changes.specs.declared.members.Place.{Place}
use Rattle.bank_changes.specs.declared.members.Place.TheVariants as there
use Rattle.script_tokens.specs.Parsers.{Parser, ◌>>=◌, pure, is_next, word, most_double_word, number}
use Rattle.script_steps.specs.declared.owners.OwnerKind.{OwnerKind}
use Rattle.script_steps.specs.declared.owners.OwnerKind.TheVariants as kind
use Rattle.script_grammar.specs.Operands.{Operand, Fixed}
use Rattle.script_grammar.specs.Names.{next_named}
use Rattle.script_steps.specs.Members.{place}

-- ---- the operands on a line

-- the word of a preset or an instrument in `OWNER`
abbrev pub kind_word : OwnerKind → List ℕ
kind_word kind.Preset = codes "preset"
kind_word kind.Instrument = codes "inst"

abbrev pub kinds : List OwnerKind
kinds = kind.Preset ∷ kind.Instrument ∷ []

-- whether an owner is a preset or an instrument
abbrev pub kind_of : Owner → OwnerKind
kind_of (owner.Preset p) = kind.Preset
kind_of (owner.Inst i) = kind.Instrument

-- the number of an owner
abbrev pub number_in : Owner → ℕ
number_in (owner.Preset p) = p
number_in (owner.Inst i) = i

-- `preset P` or `inst I`
abbrev pub of_owner : Owner → List Operand
of_owner o = Fixed (kind_word (kind_of o)) ∷ place (number_in o) ∷ []

-- `global` or `K`
abbrev pub at_place : Place → Operand
at_place there.Global = Fixed (codes "global")
at_place (there.Zone k) = place k

-- `OWNER K`
abbrev pub of_zone : Owner → ℕ → List Operand
of_zone o k = of_owner o ++ place k ∷ []

-- `OWNER PLACE`
abbrev pub of_place : Owner → Place → List Operand
of_place o p = of_owner o ++ at_place p ∷ []

-- ---- parsers

-- the owner with this number
abbrev pub owner_with : OwnerKind → ℕ → Owner
owner_with kind.Preset n = owner.Preset n
owner_with kind.Instrument n = owner.Inst n

-- `preset P` or `inst I`
unfoldable pub an_owner : Parser Owner
an_owner = do
  k ← next_named kind_word kinds
  n ← number most_double_word
  pure (owner_with k n)

-- any token but `global` is read as a number
unfoldable pub a_place : Parser Place
a_place line =
    if is_next (codes "global") line then (word >>= λ w. pure there.Global) line
    else (number most_double_word >>= λ k. pure (there.Zone k)) line

-- `OWNER K`
unfoldable pub owner_zone : Parser (Owner × ℕ)
owner_zone = do
  o ← an_owner
  k ← number most_double_word
  pure (o, k)

-- `OWNER PLACE`
unfoldable pub owner_place : Parser (Owner × Place)
owner_place = do
  o ← an_owner
  p ← a_place
  pure (o, p)
