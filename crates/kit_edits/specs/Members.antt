-- The instrument of a kit and its preset.
use Rattle.std.specs.Prelude.{◌==◌, ◌&&◌, ◌∷◌, [], ℕ, Bool, if◌then◌else◌, List, length, Option, Some, None}
use Rattle.std.specs.List.{flat_map, list_any}
use Rattle.std.specs.Option.{option_and_then, option_map_or}
use Rattle.generators.specs.Gens.{no_gens}
use Rattle.bank_parts.specs.declared.parts.GlobalZone.{GlobalZone}
use Rattle.bank_parts.specs.declared.parts.Head.{Head}
use Rattle.bank_parts.specs.declared.parts.ZoneOwner.{ZoneOwner}
use Rattle.bank_parts.specs.declared.parts.Parts.{Parts}
use Rattle.edit_forms.specs.declared.edit.Edit.{Edit}
use Rattle.edit_forms.specs.declared.edit.Edit.TheVariants.{One}
use Rattle.edit_forms.specs.declared.instruments.InstrumentStep.TheVariants.{AddInstrument}
use Rattle.edit_forms.specs.declared.presets.PresetStep.TheVariants.{AddPreset}
use Rattle.edit_forms.specs.declared.step.Step.TheVariants as steps
use Rattle.kit_tables.specs.declared.zone.KitZone.{KitZone}
use Rattle.plan_presets.specs.declared.numbers.PresetNumbers.{PresetNumbers}
use Rattle.kit_edits.specs.declared.kit.KitMembers.{KitMembers}
use Rattle.kit_edits.specs.declared.kit.KitPreset.{KitPreset}
use Rattle.kit_edits.specs.declared.numbers.Numbered.{Numbered}
use Rattle.kit_edits.specs.Zones.{row_zones}

-- a global zone that sets nothing
abbrev pub no_global : GlobalZone
no_global = record { gens = no_gens; mods = [] }

-- ---- the instrument

abbrev pub made_instrument : List ℕ → List Numbered → List (ℕ × KitZone) → ZoneOwner (List ℕ)
made_instrument name recordings rows =
    record { head = name; global = no_global; zones = flat_map (row_zones recordings) rows }

-- the edit that adds it as number `at`
abbrev pub instrument_edit : ℕ → List ℕ → List Numbered → List (ℕ × KitZone) → Edit
instrument_edit at name recordings rows =
    One (steps.Instrument (AddInstrument at (made_instrument name recordings rows)))

-- ---- the preset

abbrev pub made_head : KitPreset → Head
made_head p = record {
  name = p.name;
  number = p.numbers.number;
  bank = p.numbers.bank;
  library = 0;
  genre = 0;
  morphology = 0;
}

-- a preset with one zone, this instrument
abbrev pub made_preset : KitPreset → ℕ → ZoneOwner Head
made_preset p instrument = record {
  head = made_head p;
  global = no_global;
  zones = record { target = instrument; gens = no_gens; mods = [] } ∷ [];
}

-- the edit that adds it as number `at`
abbrev pub preset_edit : ℕ → KitPreset → ℕ → Edit
preset_edit at p instrument = One (steps.Preset (AddPreset at (made_preset p instrument)))

-- ---- both

-- the edit that adds the preset of the instrument to be added, if one is given
abbrev pub preset_edits : Parts → Option KitPreset → List Edit
preset_edits b preset =
    option_map_or (λ (p : KitPreset). preset_edit (length b.presets) p (length b.instruments) ∷ []) preset []

-- the edits that add the instrument and its preset, as far as they are given
abbrev pub member_edits : Parts → List Numbered → List (ℕ × KitZone) → KitMembers → List Edit
member_edits b recordings rows members =
    option_map_or
    (λ (name : List ℕ). instrument_edit (length b.instruments) name recordings rows ∷ preset_edits b members.preset)
    members.instrument []

-- ---- numbers in use

-- a head with these numbers
abbrev pub is_numbered : PresetNumbers → Head → Bool
is_numbered k h = h.bank == k.bank && h.number == k.number

-- some preset has these numbers
abbrev pub has_preset : List (ZoneOwner Head) → PresetNumbers → Bool
has_preset presets k = list_any (λ (p : ZoneOwner Head). is_numbered k p.head) presets

-- the preset to be made: none without an instrument
abbrev pub wanted_preset : KitMembers → Option KitPreset
wanted_preset members = option_and_then (λ (name : List ℕ). members.preset) members.instrument

-- the numbers of the preset to be made, if another has them
abbrev pub numbers_in_use : Parts → KitMembers → Option PresetNumbers
numbers_in_use b members =
    option_and_then
    (λ (p : KitPreset). if has_preset b.presets p.numbers then Some p.numbers else None)
    (wanted_preset members)
