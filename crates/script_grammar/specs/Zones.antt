-- Zones on a line: their operands, their values, and their parsers.
use Rattle.std.specs.Prelude.{ℕ, ◌+◌, ◌==◌, List, [], ◌∷◌, ◌++◌, length, map, codes, Option, Some, None, Bool, true}
use Rattle.std.specs.Prelude.{if◌then◌else◌}
use Rattle.std.specs.FinMap.{len, entries}
use Rattle.std.specs.List.{flat_map}
use Rattle.modulators.specs.declared.modulator.Modulator.{Modulator}
use Rattle.generators.specs.Gens.{Gens}
use Rattle.bank_parts.specs.declared.parts.GlobalZone.{GlobalZone}
use Rattle.bank_parts.specs.declared.parts.Zone.{Zone}
use Rattle.script_tokens.specs.declared.cursor.TokenValue.{TokenValue}
use Rattle.script_tokens.specs.Parsers.{Parser, ◌>>=◌, pure, is_next, word, most_word, number}
use Rattle.script_grammar.specs.declared.items.Item.{Item}
use Rattle.script_grammar.specs.declared.items.Item.TheVariants as item
use Rattle.script_grammar.specs.Repeated.{repeated}
use Rattle.script_grammar.specs.Names.{fixed}
use Rattle.script_grammar.specs.Operands.{Operand, Fixed, Number}
use Rattle.script_grammar.specs.Items.{items_operands, no_content, content_of, items}

-- ---- zones as they are written

-- a zone as it is written on a line: a target and items
pub record WrittenZone : Type 0 where
  pub target : ℕ
  pub items : List Item

-- the global zone, if there is one, and the zones
pub record Written : Type 0 where
  pub global : Option (List Item)
  pub zones : List WrittenZone

-- `{ TARGET ITEM* }`
abbrev pub zone_operands : WrittenZone → List Operand
zone_operands z = Fixed (codes "{") ∷ Number most_word z.target ∷ items_operands z.items

-- `{ global ITEM* }`, or nothing
abbrev pub global_operands : Option (List Item) → List Operand
global_operands None = []
global_operands (Some items) = Fixed (codes "{") ∷ Fixed (codes "global") ∷ items_operands items

-- GLOBAL? ZONE*
abbrev pub written_operands : Written → List Operand
written_operands w = global_operands w.global ++ flat_map zone_operands w.zones

-- ---- the value of zones on a line

-- the zone with this target and content
abbrev pub zone_of : ℕ → GlobalZone → Zone
zone_of target content = record { target = target; gens = content.gens; mods = content.mods }

-- the value of a zone that is written on a line
abbrev pub zone_in : WrittenZone → Zone
zone_in z = zone_of z.target (content_of z.items)

-- an absent global zone is an empty one
abbrev pub global_in : Option (List Item) → GlobalZone
global_in None = no_content
global_in (Some items) = content_of items

-- the value of a global zone and zones that are written on a line
abbrev pub zones_in : Written → GlobalZone × List Zone
zones_in w = (global_in w.global, map zone_in w.zones)

-- ---- zones as they are printed

-- generators with their amounts, and then modulators
abbrev pub listed_items : List (ℕ × ℕ) → List Modulator → List Item
listed_items entries mods =
    map (λ (e : ℕ × ℕ). item.Generator e.0 e.1) entries ++ map (λ (m : Modulator). item.Modulator m) mods

-- generators in canonical order
abbrev pub items_of : Gens → List Modulator → List Item
items_of gens mods = listed_items (entries gens) mods

-- an empty global zone is not printed
abbrev pub global_of : GlobalZone → Option (List Item)
global_of g = if len g.gens + length g.mods == 0 then None else Some (items_of g.gens g.mods)

-- a zone as it is printed
abbrev pub written_zone : Zone → WrittenZone
written_zone z = record { target = z.target; items = items_of z.gens z.mods }

-- a global zone and zones as they are printed
abbrev pub written_of : GlobalZone → List Zone → Written
written_of g zs = record { global = global_of g; zones = map written_zone zs }

-- ---- parsers

-- the brace that opens a zone
abbrev pub opened : Parser (Unit {0})
opened = fixed (codes "{")

-- `TARGET ITEM* }`
unfoldable pub zone_after_brace : Parser Zone
zone_after_brace = do
  target ← number most_word
  content ← items
  pure (zone_of target content)

-- `{ TARGET ITEM* }`
unfoldable pub zone : Parser Zone
zone = do
  o ← opened
  zone_after_brace

-- whether no token remains, or the next token closes the braces around the zones
abbrev pub is_end : List TokenValue → Bool
is_end [] = true
is_end (s ∷ line) = is_next (codes "}") (s ∷ line)

-- a zone is appended
abbrev pub with_zone : List Zone → Zone → List Zone
with_zone zs z = zs ++ z ∷ []

-- zones up to their end, each appended
unfoldable pub remaining_zones : List Zone → Parser (List Zone)
remaining_zones zs line = repeated is_end pure zone with_zone zs line

-- the items of the global zone, and the zones
unfoldable pub global_zones : Parser (GlobalZone × List Zone)
global_zones = do
  g ← items
  zs ← remaining_zones []
  pure (g, zs)

-- `global ITEM* }`, and the zones
unfoldable pub global_after_brace : Parser (GlobalZone × List Zone)
global_after_brace = do
  w ← word
  global_zones

-- the first zone after its brace, without a global zone, and the other zones
unfoldable pub first_zone_after_brace : Parser (GlobalZone × List Zone)
first_zone_after_brace = do
  z ← zone_after_brace
  zs ← remaining_zones (z ∷ [])
  pure (no_content, zs)

-- only the first brace can be the global zone's
unfoldable pub zones_after_brace : Parser (GlobalZone × List Zone)
zones_after_brace line = if is_next (codes "global") line then global_after_brace line else first_zone_after_brace line

-- `GLOBAL? ZONE*`, up to their end
unfoldable pub zones : Parser (GlobalZone × List Zone)
zones line = if is_end line then pure (no_content, []) line else (opened >>= λ o. zones_after_brace) line
