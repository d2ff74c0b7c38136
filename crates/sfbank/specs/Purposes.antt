-- What edits are found for, and when they can be found.
use Rattle.std.specs.Prelude.{ℕ, List, map, Option, Some, None, Result, Ok, Err, Bool, if◌then◌else◌}
use Rattle.std.specs.Option.{option_map}
use Rattle.bank_parts.specs.declared.parts.Parts.{Parts}
use Rattle.bank_format.specs.ReadChecks.{fault_of}
use Rattle.script_notes.specs.declared.fault.NoteFault.{NoteFault}
use Rattle.script_notes.specs.Notes.{Numbers, notes_of}
use Rattle.edit_forms.specs.declared.edit.Edit.{Edit}
use Rattle.plan_presets.specs.declared.numbers.PresetNumbers.{PresetNumbers}
use Rattle.plan_presets.specs.declared.numbers.TakenPreset.{TakenPreset}
use Rattle.plan_presets.specs.declared.fault.PresetFault.{PresetFault}
use Rattle.plan_presets.specs.declared.fault.PresetFault.TheVariants.{Missing}
use Rattle.plan_presets.specs.declared.numbers.CopiedMember.{CopiedMember}
use Rattle.plan_edits.specs.Tidying.{IsTidying}
use Rattle.plan_edits.specs.Keeping.{IsKeeping, first_missing}
use Rattle.plan_edits.specs.Playing.{IsKeepingPlayed}
use Rattle.plan_copy.specs.declared.fault.CopyFault.{CopyFault}
use Rattle.plan_copy.specs.declared.fault.CopyFault.TheVariants as copy
use Rattle.plan_copy.specs.Copying.{IsCopying, copied}
use Rattle.plan_take.specs.RemovingDuplicates.{IsRemovingDuplicates}
use Rattle.plan_take.specs.Taking.{IsTaking}
use Rattle.plan_take.specs.Merging.{IsMerging, merge_fault, taken_shifted}
use Rattle.plan_take.specs.TakeFaults.{preset_fault}
use Rattle.program_commands.specs.declared.plans.Zones.{Zones}
use Rattle.program_commands.specs.declared.plans.Zones.TheVariants.{All, Played}
use Rattle.program_reports.specs.declared.run_fault.RunFault.{RunFault}
use Rattle.program_reports.specs.declared.run_fault.RunFault.TheVariants as run
use Rattle.sfbank.specs.Outcome.{after_reading, bank_in}
use Rattle.sfbank.specs.Differences.{after_file}

-- what a plan promises of a bank and of the edits that it finds
abbrev pub Promise : Type 1
Promise = Parts → List Edit → Type 0

-- What edits are found for: to tidy a bank, to remove duplicates of its samples and instruments too, to keep the presets
-- with these numbers or what these notes play, to copy a member, to take presets of another bank, or to add all of
-- another bank.
pub data Purpose : Type 0 where
  Tidying : Purpose
  RemovingDuplicates : Purpose
  Keeping : List PresetNumbers → Purpose
  KeepingPlayed : List Numbers → Purpose
  Copying : CopiedMember → Option (List ℕ) → Purpose
  Taking : Parts → List TakenPreset → Purpose
  Merging : Parts → ℕ → Purpose

abbrev pub promise_of : Purpose → Promise
promise_of Tidying = IsTidying
promise_of RemovingDuplicates = IsRemovingDuplicates
promise_of (Keeping kept) = IsKeeping kept
promise_of (KeepingPlayed notes) = IsKeepingPlayed notes
promise_of (Copying member name) = IsCopying member name
promise_of (Taking from presets) = IsTaking from presets
promise_of (Merging from shift) = IsMerging from shift

-- a promise is that of a purpose, or a stronger one
abbrev pub Serves : Promise → Purpose → Type 0
Serves promise purpose = (b : Parts) (edits : List Edit) → promise b edits → promise_of purpose b edits

-- ---- for the banks of files

-- the numbers of the presets that notes play
abbrev pub presets_of : List Numbers → List PresetNumbers
presets_of = map (λ (n : Numbers). record { bank = n.bank; number = n.number })

-- the purpose, unless a preset has a fault
abbrev pub unless_fault : Option PresetFault → Purpose → Result Purpose RunFault
unless_fault (Some fault) purpose = Err (run.Presets fault)
unless_fault None purpose = Ok purpose

-- to tidy a bank, and to remove duplicates of its samples and instruments too if `merge` is given
abbrev pub tidying_with : Bool → Purpose
tidying_with merge = if merge then RemovingDuplicates else Tidying

-- to tidy the bank of a file
abbrev pub tidying : List ℕ → Bool → Result Purpose RunFault
tidying file merge = after_reading (fault_of file) (Ok (tidying_with merge))

-- the fault of a run for a member that can't be copied
abbrev pub of_copy : CopyFault → RunFault
of_copy (copy.NoMember cause) = run.NoMember cause
of_copy (copy.Numbers fault) = run.Presets fault

-- to copy a member, if a bank with its copy can be made
abbrev pub copying_to : CopiedMember → Option (List ℕ) → Result Parts CopyFault → Result Purpose RunFault
copying_to member name (Ok bank) = Ok (Copying member name)
copying_to member name (Err fault) = Err (of_copy fault)

-- to copy a member of the bank of a file
abbrev pub copying : List ℕ → CopiedMember → Option (List ℕ) → Result Purpose RunFault
copying file member name = after_reading (fault_of file) (copying_to member name (copied (bank_in file) member name))

-- to keep the presets of its bank with these numbers
abbrev pub keeping : List ℕ → List PresetNumbers → Result Purpose RunFault
keeping file kept = after_reading (fault_of file) (Ok (Keeping kept))

-- the same, if the bank has them all
abbrev pub keeping_listed : Parts → List PresetNumbers → Result Purpose RunFault
keeping_listed b list = unless_fault (option_map Missing (first_missing b list)) (Keeping list)

-- notes, or their fault
abbrev pub notes_read : Result (List Numbers) NoteFault → Result (List Numbers) RunFault
notes_read (Ok notes) = Ok notes
notes_read (Err fault) = Err (run.Notes fault)

-- to keep the presets of notes, with all their zones or with those that the notes play
abbrev pub keeping_of : Zones → List Numbers → Purpose
keeping_of All notes = Keeping (presets_of notes)
keeping_of Played notes = KeepingPlayed notes

abbrev pub keeping_notes : Zones → Result (List Numbers) RunFault → Result Purpose RunFault
keeping_notes zones (Ok notes) = Ok (keeping_of zones notes)
keeping_notes zones (Err fault) = Err fault

-- The first failed check of the file, else the first fault of the notes, else to keep their presets.
abbrev pub keeping_played : Zones → List ℕ → List ℕ → Result Purpose RunFault
keeping_played zones file text = after_reading (fault_of file) (keeping_notes zones (notes_read (notes_of text)))

-- to take presets of a bank, if all can be taken
abbrev pub taking_listed : Parts → Parts → List TakenPreset → Result Purpose RunFault
taking_listed from b presets = unless_fault (preset_fault from b presets) (Taking from presets)

-- to add all of a bank with its bank numbers increased, if all its presets can be added
abbrev pub merging_all : Parts → Parts → ℕ → Result Purpose RunFault
merging_all from b shift = unless_fault (merge_fault from b shift) (Merging from shift)

-- The first failed check of the first file, else of the second, else what is wanted of the second bank for the first.
abbrev pub with_banks : List ℕ → List ℕ → (Parts → Parts → Result Purpose RunFault) → Result Purpose RunFault
with_banks file other wanted =
    after_reading (fault_of file) (after_file run.ReadFrom (fault_of other) (wanted (bank_in other) (bank_in file)))

-- to take presets of the second bank into the first
abbrev pub taking : List ℕ → List ℕ → List TakenPreset → Result Purpose RunFault
taking file other presets = with_banks file other (λ from b. taking_listed from b presets)

-- to add all of the second bank to the first
abbrev pub merging : List ℕ → List ℕ → ℕ → Result Purpose RunFault
merging file other shift = with_banks file other (λ from b. merging_all from b shift)

-- the presets of a file's bank, with their bank numbers increased
abbrev pub added_presets : List ℕ → ℕ → List TakenPreset
added_presets other shift = map (taken_shifted shift) (bank_in other).presets
