-- What a line that lists zones has in its comment.
use Rattle.std.specs.Prelude.{ℕ, List, [], ◌∷◌, ◌++◌, ◌==◌, ◌||◌, Bool, true, if◌then◌else◌}
use Rattle.std.specs.List.{flat_map, list_any}
use Rattle.std.specs.FinMap.{entries}
use Rattle.generators.specs.declared.level.Level.{Level}
use Rattle.generator_rows.specs.declared.rows.TheConstants.{ROWS}
use Rattle.modulators.specs.declared.modulator.Modulator.{Modulator}
use Rattle.bank_parts.specs.declared.parts.GlobalZone.{GlobalZone}
use Rattle.bank_parts.specs.declared.parts.Zone.{Zone}
use Rattle.bank_parts.specs.declared.parts.Parts.{Parts}
use Rattle.script_tokens.specs.declared.printing.Piece.{Piece}
use Rattle.script_comments.specs.Items.{comment_text}
use Rattle.script_comments.specs.Names.{target_of, numbered, numbered_operator}

-- some generator has this operator, or some modulator has it as its destination
abbrev pub content_has : ℕ → List (ℕ × ℕ) → List Modulator → Bool
content_has op es mods = list_any (λ e. e.0 == op) es || list_any (λ (m : Modulator). m.dest == op) mods

-- the same of a zone
abbrev pub zone_has : ℕ → Zone → Bool
zone_has op z = content_has op (entries z.gens) z.mods

-- the same of a global zone or any of some zones
abbrev pub zones_have : GlobalZone → List Zone → ℕ → Bool
zones_have g zs op = content_has op (entries g.gens) g.mods || list_any (zone_has op) zs

-- the targets of zones, zone by zone
abbrev pub target_items : Parts → Level → List Zone → List (List Piece)
target_items b at zs = flat_map (λ (z : Zone). numbered b (target_of at z.target)) zs

-- the operators that pass, each once, in rising order
abbrev pub operator_items : (ℕ → Bool) → List (List Piece)
operator_items has = flat_map (λ row. if has row.number then numbered_operator row ∷ [] else []) ROWS

-- the comment of a line with these zones
abbrev pub zones_comment : Parts → Level → GlobalZone → List Zone → List ℕ
zones_comment b at g zs = comment_text true (target_items b at zs ++ operator_items (zones_have g zs))
