-- Operands that the forms of presets, instruments and samples share: their values and their parsers.
use Rattle.std.specs.Prelude.{◌≡◌, ℕ, List, [], ◌∷◌, ◌++◌}
use Rattle.bank_parts.specs.declared.parts.GlobalZone.{GlobalZone}
use Rattle.bank_parts.specs.declared.parts.Zone.{Zone}
use Rattle.bank_parts.specs.declared.parts.ZoneOwner.{ZoneOwner}
use Rattle.script_tokens.specs.Parsers.{Parser, ◌>>=◌, pure, most_double_word, number, name}
use Rattle.script_grammar.specs.Operands.{Operand, Number, Name}
use Rattle.script_grammar.specs.Zones.{Written, written_operands, written_of, zones_in, zones}

-- ---- the operands on a line

-- the index of a list's member
abbrev pub place : ℕ → Operand
place i = Number most_double_word i

-- `I NAME`
abbrev pub named_operands : ℕ → List ℕ → List Operand
named_operands i n = place i ∷ Name n ∷ []

-- `I J`
abbrev pub moved_operands : ℕ → ℕ → List Operand
moved_operands i j = place i ∷ place j ∷ []

-- an index, a head, and `GLOBAL? ZONE*`
abbrev pub owner_operands : ℕ → List Operand → Written → List Operand
owner_operands at head written = (place at ∷ head) ++ written_operands written

-- as it is printed
abbrev pub printed_owner : {H : Type 0} → (H → List Operand) → ℕ → ZoneOwner H → List Operand
printed_owner head at x = owner_operands at (head x.head) (written_of x.global x.zones)

-- operands that encode an added preset or instrument: the zones on the line have the value of its zones, in
-- whatever form
pub record EncodesOwner {H : Type 0} (head : H → List Operand) (at : ℕ) (x : ZoneOwner H) (os : List Operand) : Type 0
  where
    pub written : Written
    pub operands : os ≡ owner_operands at (head x.head) written
    pub has_value : zones_in written ≡ (x.global, x.zones)

-- ---- parsers

-- an index, and what follows it
abbrev pub placed : {X : Type 0} → Parser X → Parser (ℕ × X)
placed part = do
  i ← number most_double_word
  x ← part
  pure (i, x)

-- `I NAME`
unfoldable pub indexed_name : Parser (ℕ × List ℕ)
indexed_name = placed name

-- `I J`
unfoldable pub index_pair : Parser (ℕ × ℕ)
index_pair = placed (number most_double_word)

-- an owner with this head, global zone and zones
abbrev pub owner_of : {H : Type 0} → H → GlobalZone × List Zone → ZoneOwner H
owner_of head z = record { head = head; global = z.0; zones = z.1 }

-- `GLOBAL? ZONE*` after a head
unfoldable pub zones_of : {H : Type 0} → H → Parser (ZoneOwner H)
zones_of head = do
  z ← zones
  pure (owner_of head z)

-- an index and a head, and `GLOBAL? ZONE*`
abbrev pub owner : {H : Type 0} → Parser (ℕ × H) → Parser (ℕ × ZoneOwner H)
owner part = do
  h ← part
  x ← zones_of h.1
  pure (h.0, x)
