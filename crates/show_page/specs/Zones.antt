-- Presets and instruments, with their zones.
use Rattle.std.specs.Prelude.{ℕ, List, [], ◌∷◌, ◌++◌, codes}
use Rattle.std.specs.List.{flat_map}
use Rattle.std.specs.FinMap.{entries}
use Rattle.modulators.specs.declared.modulator.Modulator.{Modulator}
use Rattle.bank_parts.specs.declared.parts.Head.{Head}
use Rattle.bank_parts.specs.declared.parts.GlobalZone.{GlobalZone}
use Rattle.bank_parts.specs.declared.parts.Zone.{Zone}
use Rattle.bank_parts.specs.declared.parts.ZoneOwner.{ZoneOwner}
use Rattle.show_page.specs.declared.json.Field.TheVariants.{Number, Signed, Text}
use Rattle.show_page.specs.Json.{opened, next_text, listed}

-- a generator: operator and amount
abbrev pub generator_text : ℕ × ℕ → List ℕ
generator_text e = codes "," ++ listed (Number e.0) (Number e.1 ∷ [])

-- a modulator: source, destination, amount, amount source and transform
abbrev pub modulator_text : Modulator → List ℕ
modulator_text m =
    codes ","
    ++ listed (Number m.source)
    (Number m.dest ∷ Signed m.amount ∷ Number m.amount_source ∷ Number m.transform ∷ [])

-- what a zone sets, and the end of its list
abbrev pub settings_text : List (ℕ × ℕ) → List Modulator → List ℕ
settings_text gens mods = flat_map generator_text gens ++ (flat_map modulator_text mods ++ codes "]")

-- the global zone has a word in place of a target
abbrev pub global_text : GlobalZone → List ℕ
global_text x = codes ",[\"global\"" ++ settings_text (entries x.gens) x.mods

abbrev pub zone_text : Zone → List ℕ
zone_text z = codes "," ++ (opened (Number z.target) ++ settings_text (entries z.gens) z.mods)

-- the fields of a preset: its name, bank and number
abbrev pub preset_head : Head → List ℕ
preset_head head = opened (Text head.name) ++ (next_text (Number head.bank) ++ next_text (Number head.number))

abbrev pub instrument_head : List ℕ → List ℕ
instrument_head name = opened (Text name)

-- an owner on a line of its own: the fields of its head, its global zone, and its zones
unfoldable pub owner_text : {H : Type 0} → (H → List ℕ) → ZoneOwner H → List ℕ
owner_text head x =
    codes "\n," ++ (head x.head ++ (global_text x.global ++ (flat_map zone_text x.zones ++ codes "]")))
