-- The edits that add a kit to a bank.
use Rattle.std.specs.Prelude.{◌≡◌, ◌++◌, [], ℕ, List, length, if◌then◌else◌, Result, Ok, Err, IsOk}
use Rattle.std.specs.Option.{option_map_or}
use Rattle.sf_base.specs.declared.memory.Failure.{Failure}
use Rattle.sf_base.specs.declared.memory.Failure.TheVariants.{Fault, OutOfMemory}
use Rattle.bank_parts.specs.declared.parts.Parts.{Parts}
use Rattle.edit_forms.specs.declared.edit.Edit.{Edit}
use Rattle.kit_tables.specs.declared.zone.KitZone.{KitZone}
use Rattle.plan_presets.specs.declared.fault.PresetFault.{PresetFault}
use Rattle.plan_presets.specs.declared.fault.PresetFault.TheVariants.{InUse}
use Rattle.plan_presets.specs.declared.numbers.PresetNumbers.{PresetNumbers}
use Rattle.kit_edits.specs.declared.kit.KitRecording.{KitRecording}
use Rattle.kit_edits.specs.declared.kit.KitMembers.{KitMembers}
use Rattle.kit_edits.specs.Appending.{no_names}
use Rattle.kit_edits.specs.Numbers.{all_numbered, have_room, sample_edits}
use Rattle.kit_edits.specs.Members.{member_edits, numbers_in_use}

-- the edits that add the samples, and where there is room for them, the instrument and the preset
abbrev pub all_edits : Parts → List KitRecording → List (ℕ × KitZone) → KitMembers → List Edit
all_edits b recordings rows members =
    let n = length b.samples in
    sample_edits n no_names recordings
    ++ (if have_room n recordings then member_edits b (all_numbered n recordings) rows members else [])

-- the edits that add a kit, or the numbers that another preset has
unfoldable pub kit_edits : Parts → List KitRecording → List (ℕ × KitZone) → KitMembers
    → Result (List Edit) PresetFault
kit_edits b recordings rows members =
    option_map_or (λ (k : PresetNumbers). Err (InUse k)) (numbers_in_use b members)
    (Ok (all_edits b recordings rows members))

-- the fault, or `OutOfMemory` where there are edits
abbrev pub IsKitFailure : Result (List Edit) PresetFault → Failure PresetFault → Type 0
IsKitFailure due (Fault fault) = due ≡ Err fault
IsKitFailure due OutOfMemory = IsOk due
