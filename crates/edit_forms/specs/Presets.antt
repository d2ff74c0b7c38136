-- Steps that edit presets: their effects, causes of refusal, and inverses.
use Rattle.std.specs.Prelude.{◌<◌, ◌^◌, ℕ, Bool, false, List, [], ◌∷◌, length, slice_get, Option, Some, None}
use Rattle.std.specs.Option.{option_map_or}
use Rattle.sf_base.specs.Names.{IsName}
use Rattle.generators.specs.declared.level.Level.TheVariants as level
use Rattle.bank_parts.specs.declared.parts.Head.{Head}
use Rattle.bank_parts.specs.declared.parts.ZoneOwner.{ZoneOwner}
use Rattle.bank_parts.specs.declared.parts.Parts.{Parts}
use Rattle.bank_parts.specs.Fits.{FitsHead, FitsOwner}
use Rattle.bank_changes.specs.Members.{head_of}
use Rattle.bank_changes.specs.Presets.{preset_added, preset_removed, preset_moved, head_set}
use Rattle.edit_forms.specs.declared.cause.Cause.TheVariants.{NoSuchInstrument}
use Rattle.edit_forms.specs.declared.presets.PresetStep.{PresetStep}
use Rattle.edit_forms.specs.declared.presets.PresetStep.TheVariants.{AddPreset, RemovePreset, MovePreset, SetHead}
use Rattle.edit_forms.specs.Causes.{Test, no_such_preset, no_such_target, bad_member_index, bad_insert_index, bad_generator}
use Rattle.edit_forms.specs.Causes.{bad_range}

-- each number, name and text is in the range of its field
abbrev pub Fits : PresetStep → Type 0
Fits (AddPreset at preset) = (at < 2 ^ 32) × FitsOwner FitsHead preset
Fits (RemovePreset preset) = preset < 2 ^ 32
Fits (MovePreset from to) = (from < 2 ^ 32) × (to < 2 ^ 32)
Fits (SetHead preset name number bank) = (preset < 2 ^ 32) × IsName name × (number < 2 ^ 16) × (bank < 2 ^ 16)

-- the bank after an accepted step
abbrev pub raw : Parts → PresetStep → Parts
raw b (AddPreset at preset) = preset_added b at preset
raw b (RemovePreset preset) = preset_removed b preset
raw b (MovePreset from to) = preset_moved b from to
raw b (SetHead preset name number bank) = head_set b preset name number bank

-- the step's possible causes of refusal, in the order of their numbers
abbrev pub causes : Parts → PresetStep → List Test
causes b (AddPreset at preset) =
    no_such_target (length b.instruments) preset NoSuchInstrument
    ∷ bad_insert_index (length b.presets) at
    ∷ bad_generator level.Preset preset
    ∷ bad_range preset
    ∷ []
causes b (RemovePreset preset) = no_such_preset b preset ∷ []
causes b (MovePreset from to) = no_such_preset b from ∷ bad_member_index (length b.presets) to ∷ []
causes b (SetHead preset name number bank) = no_such_preset b preset ∷ []

-- the inverse step, computed from the bank before the step
abbrev pub inverse : Parts → PresetStep → PresetStep
inverse b (AddPreset at preset) = RemovePreset at
inverse b (RemovePreset preset) =
    option_map_or (λ (p : ZoneOwner Head). AddPreset preset p) (slice_get b.presets preset) (RemovePreset preset)
inverse b (MovePreset from to) = MovePreset to from
inverse b (SetHead preset name number bank) =
    option_map_or (λ (h : Head). SetHead preset h.name h.number h.bank) (head_of b preset)
    (SetHead preset name number bank)

-- applying the step allocates nothing
abbrev pub AllocatesNothing : PresetStep → Type 0
AllocatesNothing (AddPreset at preset) = ⊥
AllocatesNothing (RemovePreset preset) = ⊥
AllocatesNothing (MovePreset from to) = Unit {0}
AllocatesNothing (SetHead preset name number bank) = Unit {0}

-- the step changes no sound, for any bank
abbrev pub is_neutral : PresetStep → Bool
is_neutral s = false

-- the preset that the step adds
abbrev pub added_preset : PresetStep → Option (ZoneOwner Head)
added_preset (AddPreset at preset) = Some preset
added_preset _ = None

-- the name that the step sets
abbrev pub new_name : PresetStep → Option (List ℕ)
new_name (SetHead preset name number bank) = Some name
new_name _ = None
