-- The items of a zone: generators and modulators on a line, and lists of them in braces.
use Rattle.std.specs.Prelude.{ℕ, ℤ, ◌+◌, ◌*◌, ◌/◌, ◌%◌, List, [], ◌∷◌, ◌++◌, codes, None, if◌then◌else◌}
use Rattle.std.specs.Int.{w16, cast_unsigned}
use Rattle.std.specs.List.{flat_map}
use Rattle.std.specs.Str.{bytes_eq}
use Rattle.std.specs.FinMap.{insert}
use Rattle.generators.specs.Gens.{no_gens}
use Rattle.generators.specs.Ranges.{is_range_operator}
use Rattle.modulators.specs.declared.modulator.Modulator.{Modulator}
use Rattle.bank_parts.specs.declared.parts.GlobalZone.{GlobalZone}
use Rattle.script_tokens.specs.declared.fault.LineFault.TheVariants as faults
use Rattle.script_tokens.specs.Parsers.{Parser, ◌>>=◌, pure, or_fault, is_next, word, most_word, number, signed, range}
use Rattle.script_grammar.specs.declared.items.Item.{Item}
use Rattle.script_grammar.specs.declared.items.Item.TheVariants as item
use Rattle.script_grammar.specs.Repeated.{repeated}
use Rattle.script_grammar.specs.Operands.{Operand, Fixed, Number, Signed, Amount, Range}

-- ---- the operands on a line

-- `LO..HI` for key and velocity ranges, else a signed number
abbrev pub amount_operand : ℕ → ℕ → Operand
amount_operand operator amount =
    if is_range_operator operator then Range (amount % 256) (amount / 256) else Amount amount

-- `OPERATOR AMOUNT`
abbrev pub generator_operands : ℕ → ℕ → List Operand
generator_operands operator amount = Number most_word operator ∷ amount_operand operator amount ∷ []

-- `SOURCE DEST AMOUNT ASOURCE TRANSFORM`
abbrev pub modulator_operands : Modulator → List Operand
modulator_operands m =
    Number most_word m.source ∷ Number most_word m.dest ∷ Signed 32767 m.amount ∷ Number most_word m.amount_source
    ∷ Number most_word m.transform ∷ []

-- `g OPERATOR AMOUNT` or `m MOD`
abbrev pub item_operands : Item → List Operand
item_operands (item.Generator operator amount) = Fixed (codes "g") ∷ generator_operands operator amount
item_operands (item.Modulator m) = Fixed (codes "m") ∷ modulator_operands m

-- items, and the brace that closes them
abbrev pub items_operands : List Item → List Operand
items_operands items = flat_map item_operands items ++ Fixed (codes "}") ∷ []

-- ---- the value of items

-- neither generators nor modulators
abbrev pub no_content : GlobalZone
no_content = record { gens = no_gens; mods = [] }

-- a generator is set, a modulator is appended
abbrev pub with_item : GlobalZone → Item → GlobalZone
with_item content (item.Generator operator amount) = record content { gens = insert content.gens operator amount }
with_item content (item.Modulator m) = record content { mods = content.mods ++ m ∷ [] }

-- items in order, so that the last amount of a repeated operator counts
abbrev pub with_items : GlobalZone → List Item → GlobalZone
with_items content [] = content
with_items content (i ∷ items) = with_items (with_item content i) items

-- the content of a zone with these items
abbrev pub content_of : List Item → GlobalZone
content_of items = with_items no_content items

-- ---- parsers

-- the amount of an operator, as a WORD of 16 bits
unfoldable pub amount : ℕ → Parser ℕ
amount operator =
    if is_range_operator operator then (range >>= λ ends. pure (ends.0 + 256 * ends.1))
    else (signed 32767 >>= λ z. pure (cast_unsigned w16 z))

-- `OPERATOR AMOUNT`
unfoldable pub generator : Parser (ℕ × ℕ)
generator = do
  operator ← number most_word
  a ← amount operator
  pure (operator, a)

abbrev pub modulator_of : ℕ → ℕ → ℤ → ℕ → ℕ → Modulator
modulator_of source dest amount amount_source transform =
    record { source = source; dest = dest; amount = amount; amount_source = amount_source; transform = transform }

-- `SOURCE DEST AMOUNT ASOURCE TRANSFORM`
unfoldable pub modulator : Parser Modulator
modulator = do
  source ← number most_word
  dest ← number most_word
  amount ← signed 32767
  amount_source ← number most_word
  transform ← number most_word
  pure (modulator_of source dest amount amount_source transform)

-- an item after its first word
unfoldable pub item_after_word : List ℕ → Parser Item
item_after_word w =
    if bytes_eq w (codes "g") then (generator >>= λ e. pure (item.Generator e.0 e.1))
    else if bytes_eq w (codes "m") then (modulator >>= λ m. pure (item.Modulator m))
    else or_fault faults.Syntax None

-- `g OPERATOR AMOUNT` or `m MOD`
unfoldable pub an_item : Parser Item
an_item = word >>= item_after_word

-- the brace that closes items
unfoldable pub closed : {X : Type 0} → X → Parser X
closed x = do
  w ← word
  pure x

-- items up to the closing brace, added to a content
unfoldable pub items_on : GlobalZone → Parser GlobalZone
items_on content line = repeated (is_next (codes "}")) closed an_item with_item content line

-- `ITEM* }`
unfoldable pub items : Parser GlobalZone
items = items_on no_content
