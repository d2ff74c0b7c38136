-- The table of a kit for an instrument, line by line.
use Rattle.std.specs.Prelude.{◌++◌, ℕ, if◌then◌else◌, codes, List, [], ◌∷◌, slice_get}
use Rattle.std.specs.List.{flat_map}
use Rattle.std.specs.Option.{option_map_or}
use Rattle.bank_parts.specs.declared.owners.ZonePlace.TheVariants as there
use Rattle.bank_parts.specs.declared.parts.GlobalZone.{GlobalZone}
use Rattle.bank_parts.specs.declared.parts.Parts.{Parts}
use Rattle.bank_parts.specs.declared.parts.Zone.{Zone}
use Rattle.bank_parts.specs.declared.parts.ZoneOwner.{ZoneOwner}
use Rattle.bank_parts.specs.Owners.{zone_at}
use Rattle.bank_changes.specs.declared.members.Owner.TheVariants as owner
use Rattle.script_tokens.specs.declared.printing.Piece.TheVariants as piece
use Rattle.script_grammar.specs.Operands.{pieces_of}
use Rattle.script_grammar.specs.Zones.{global_of, global_operands, written_zone, zone_operands}
use Rattle.kit_tables.specs.RowTexts.{WrittenLine, ZoneLine, Comment, table_text}
use Rattle.show_zone_map.specs.Rectangles.{zone_numbers}
use Rattle.kit_of_instrument.specs.KitZones.{is_plain, is_whole, listed_zone}

-- ---- comments: what the bank has, as in scripts

-- the instrument's number and name
abbrev pub name_line : ℕ → List ℕ → WrittenLine
name_line i name = Comment (piece.Word (codes "inst") ∷ piece.Number i ∷ piece.Name name ∷ [])

-- its global zone
abbrev pub global_line : GlobalZone → WrittenLine
global_line g = Comment (piece.Word (codes "zone") ∷ pieces_of (global_operands (global_of g)))

-- its zone l
abbrev pub zone_line : ℕ → Zone → WrittenLine
zone_line l z = Comment (piece.Word (codes "zone") ∷ piece.Number l ∷ pieces_of (zone_operands (written_zone z)))

-- ---- all lines

-- the name of instrument i, and its global zone if a table can't say all of it
abbrev pub head_lines : Parts → ℕ → List WrittenLine
head_lines b i =
    option_map_or
    (λ (x : ZoneOwner (List ℕ)).
    name_line i x.head ∷ (if is_plain b i there.Global then [] else global_line x.global ∷ []))
    (slice_get b.instruments i) []

-- zone l in the table, if a note selects it
abbrev pub table_lines : List (List ℕ) → Parts → ℕ → ℕ → List WrittenLine
table_lines files b i l = option_map_or (λ e. ZoneLine e.0 e.1 ∷ []) (listed_zone files b i l) []

-- zone l as it is, if the table doesn't say all of it
abbrev pub rest_lines : Parts → ℕ → ℕ → List WrittenLine
rest_lines b i l =
    if is_whole b i l then [] else option_map_or (λ (z : Zone). zone_line l z ∷ []) (zone_at b.instruments i l) []

abbrev pub zone_lines : List (List ℕ) → Parts → ℕ → ℕ → List WrittenLine
zone_lines files b i l = table_lines files b i l ++ rest_lines b i l

-- all lines, for the names of the files of all samples; none if there is no instrument i
abbrev pub kit_lines : List (List ℕ) → Parts → ℕ → List WrittenLine
kit_lines files b i = head_lines b i ++ flat_map (zone_lines files b i) (zone_numbers b (owner.Inst i))

unfoldable pub kit_text : List (List ℕ) → Parts → ℕ → List ℕ
kit_text files b i = table_text (kit_lines files b i)
