-- All of another bank, after what a bank has.
use Rattle.std.specs.Prelude.{◌≡◌, ◌+◌, if◌then◌else◌, nat_lt, ℕ, List, [], ◌∷◌, map, Option, Some, None}
use Rattle.std.specs.Option.{option_or}
use Rattle.bank_parts.specs.declared.parts.Head.{Head}
use Rattle.bank_parts.specs.declared.parts.ZoneOwner.{ZoneOwner}
use Rattle.bank_parts.specs.declared.parts.Parts.{Parts}
use Rattle.edit_forms.specs.declared.edit.Edit.{Edit}
use Rattle.bank_edits.specs.Runs.{after_all}
use Rattle.plan_presets.specs.declared.fault.PresetFault.{PresetFault}
use Rattle.plan_presets.specs.declared.fault.PresetFault.TheVariants.{InUse, BankTooHigh}
use Rattle.plan_presets.specs.declared.numbers.PresetNumbers.{PresetNumbers}
use Rattle.plan_presets.specs.declared.numbers.TakenPreset.{TakenPreset}
use Rattle.plan_take.specs.Taking.{has_preset, IsTaking}
use Rattle.plan_take.specs.TakeFaults.{numbers_of}
use Rattle.plan_take.specs.Shifted.{merged}

-- the numbers of a head, with its bank number increased
abbrev pub shifted_numbers : ℕ → Head → PresetNumbers
shifted_numbers shift h = record { bank = h.bank + shift; number = h.number }

-- a preset that is taken with its bank number increased
abbrev pub taken_shifted : ℕ → ZoneOwner Head → TakenPreset
taken_shifted shift p = record { from = numbers_of p; to = shifted_numbers shift p.head }

-- the count of bank numbers
abbrev pub BANKS : ℕ
BANKS = 65536

-- why a preset with this head can't be added
abbrev pub shift_fault : Parts → ℕ → Head → Option PresetFault
shift_fault b shift h =
    if nat_lt (h.bank + shift) BANKS
    then (if has_preset b.presets (shifted_numbers shift h) then Some (InUse (shifted_numbers shift h)) else None)
    else Some (BankTooHigh (record { bank = h.bank; number = h.number }))

-- the first preset of a list that can't be added, and why
unfoldable pub first_shift_fault : Parts → ℕ → List (ZoneOwner Head) → Option PresetFault
first_shift_fault b shift [] = None
first_shift_fault b shift (p ∷ ps) = option_or (shift_fault b shift p.head) (first_shift_fault b shift ps)

-- the first preset of `from` that can't be added to b, and why
abbrev pub merge_fault : Parts → Parts → ℕ → Option PresetFault
merge_fault from b shift = first_shift_fault b shift from.presets

-- The edits take all presets of `from` with their bank numbers increased, and lead to the merged bank.
pub record IsMerging (from : Parts) (shift : ℕ) (b : Parts) (edits : List Edit) : Type 0 where
  pub taken : IsTaking from (map (taken_shifted shift) from.presets) b edits
  pub result : after_all b edits ≡ merged from shift b
