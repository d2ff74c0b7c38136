-- Why presets of another bank can't be taken.
use Rattle.std.specs.Prelude.{◌==◌, ◌&&◌, Bool, cond, List, [], ◌∷◌, ◌++◌, Option, Some, None, map}
use Rattle.std.specs.List.{list_any}
use Rattle.std.specs.Option.{option_or}
use Rattle.bank_parts.specs.declared.parts.Head.{Head}
use Rattle.bank_parts.specs.declared.parts.ZoneOwner.{ZoneOwner}
use Rattle.bank_parts.specs.declared.parts.Parts.{Parts}
use Rattle.plan_presets.specs.declared.fault.PresetFault.{PresetFault}
use Rattle.plan_presets.specs.declared.fault.PresetFault.TheVariants.{Missing, InUse}
use Rattle.plan_presets.specs.declared.numbers.PresetNumbers.{PresetNumbers}
use Rattle.plan_presets.specs.declared.numbers.TakenPreset.{TakenPreset}
use Rattle.plan_take.specs.Taking.{has_preset}

-- the numbers of a preset
abbrev pub numbers_of : ZoneOwner Head → PresetNumbers
numbers_of p = record { bank = p.head.bank; number = p.head.number }

-- the numbers of presets
abbrev pub numbers_in : List (ZoneOwner Head) → List PresetNumbers
numbers_in presets = map numbers_of presets

-- the numbers that presets get
abbrev pub new_numbers : List TakenPreset → List PresetNumbers
new_numbers presets = map (λ (p : TakenPreset). p.to) presets

-- these are among the used numbers
abbrev pub is_used : List PresetNumbers → PresetNumbers → Bool
is_used used k = list_any (λ (u : PresetNumbers). u.bank == k.bank && u.number == k.number) used

-- why a preset can't be taken, where these numbers are in use
abbrev pub fault_of : Parts → List PresetNumbers → TakenPreset → Option PresetFault
fault_of from used p =
    cond (has_preset from.presets p.from) (cond (is_used used p.to) (Some (InUse p.to)) None) (Some (Missing p.from))

-- the first fault of a list; each preset uses its new numbers
unfoldable pub first_fault : Parts → List PresetNumbers → List TakenPreset → Option PresetFault
first_fault from used [] = None
first_fault from used (p ∷ ps) = option_or (fault_of from used p) (first_fault from (used ++ p.to ∷ []) ps)

-- the first preset of the list that can't be taken, and why
abbrev pub preset_fault : Parts → Parts → List TakenPreset → Option PresetFault
preset_fault from b presets = first_fault from (numbers_in b.presets) presets
