-- Members added to a draft.
use Rattle.std.specs.Prelude.{◌≡◌, false, List}
use Rattle.std.specs.List.Sorted.{IsPermutation}
use Rattle.bank_parts.specs.declared.parts.Parts.{Parts}
use Rattle.script_notes.specs.Notes.{Numbers}
use Rattle.zone_select.specs.Select.{selected}
use Rattle.zone_select.specs.Alike.{AreAlike}
use Rattle.edit_drafts.specs.Drafts.{Drafted}
use Rattle.plan_presets.specs.declared.numbers.PresetNumbers.{PresetNumbers}
use Rattle.plan_presets.specs.declared.numbers.TakenPreset.{TakenPreset}
use Rattle.plan_take.specs.Taking.{is_on, is_taken}

-- each note on another preset has the same voices in both banks, in some order
abbrev pub KeepsVoices : PresetNumbers → Parts → Parts → Type 0
KeepsVoices k b c = (n : Numbers) → is_on k n ≡ false → IsPermutation (selected b n) (selected c n)

-- the same for the presets that are taken
abbrev pub KeepsOtherVoices : List TakenPreset → Parts → Parts → Type 0
KeepsOtherVoices presets b c = (n : Numbers) → is_taken presets n ≡ false → IsPermutation (selected b n) (selected c n)

-- Edits are added to a draft, which keep the voices of all notes.
pub record AddsMembers (old new : Drafted) : Type 0 where
  pub first : new.first ≡ old.first
  pub alike : AreAlike old.bank new.bank

-- Edits are added to a draft, which keep the voices of notes on other presets.
pub record AddsPresets (presets : List TakenPreset) (old new : Drafted) : Type 0 where
  pub first : new.first ≡ old.first
  pub others : KeepsOtherVoices presets old.bank new.bank
