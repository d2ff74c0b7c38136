-- Presets of another bank, under the same numbers or new ones.
use Rattle.std.specs.Prelude.{◌≡◌, ◌==◌, ◌&&◌, ℕ, Bool, true, false, List, Option, Some, map, slice_get}
use Rattle.std.specs.List.{AllByRecursion, list_any, find}
use Rattle.std.specs.Option.{is_some}
use Rattle.bank_parts.specs.declared.parts.Head.{Head}
use Rattle.bank_parts.specs.declared.parts.ZoneOwner.{ZoneOwner}
use Rattle.bank_parts.specs.declared.parts.Parts.{Parts}
use Rattle.script_notes.specs.Notes.{Numbers}
use Rattle.zone_select.specs.Select.{selected}
use Rattle.mixer.specs.Render.{render}
use Rattle.edit_forms.specs.declared.edit.Edit.{Edit}
use Rattle.bank_edits.specs.Runs.{AllAccepted, after_all}
use Rattle.plan_presets.specs.declared.numbers.PresetNumbers.{PresetNumbers}
use Rattle.plan_presets.specs.declared.numbers.TakenPreset.{TakenPreset}

-- ---- presets and notes by numbers

-- a head with these numbers
abbrev pub is_numbered : PresetNumbers → Head → Bool
is_numbered k h = h.bank == k.bank && h.number == k.number

-- the first preset with these numbers
abbrev pub preset_with : List (ZoneOwner Head) → PresetNumbers → Option (ZoneOwner Head)
preset_with presets k = find (λ (p : ZoneOwner Head). is_numbered k p.head) presets

-- some preset has these numbers
abbrev pub has_preset : List (ZoneOwner Head) → PresetNumbers → Bool
has_preset presets k = is_some (preset_with presets k)

-- the note, played on the preset with these numbers
abbrev pub on_preset : PresetNumbers → Numbers → Numbers
on_preset k n = record n { bank = k.bank; number = k.number }

-- the note is played on the preset with these numbers
abbrev pub is_on : PresetNumbers → Numbers → Bool
is_on k n = k.bank == n.bank && k.number == n.number

-- the note is played on a preset that is taken
abbrev pub is_taken : List TakenPreset → Numbers → Bool
is_taken presets n = list_any (λ (p : TakenPreset). is_on p.to n) presets

-- ---- the promise

-- P holds of each preset of the list
abbrev pub OfEach : (TakenPreset → Type 0) → List TakenPreset → Type 0
OfEach P presets = (i : ℕ) (p : TakenPreset) → slice_get presets i ≡ Some p → P p

-- `from` has the preset, and b has none with its new numbers
pub record IsTakeable (from b : Parts) (p : TakenPreset) : Type 0 where
  pub there : has_preset from.presets p.from ≡ true
  pub free : has_preset b.presets p.to ≡ false

-- each note has the same voices, in order, on the preset in b as it has on the original in `from`
abbrev pub IsCopied : Parts → Parts → TakenPreset → Type 0
IsCopied from b p = (n : Numbers) → selected b (on_preset p.to n) ≡ selected from (on_preset p.from n)

-- each list of notes renders on the preset in b as it does on the original in `from`
abbrev pub CopyRenders : Parts → Parts → TakenPreset → Type 0
CopyRenders from b p =
    (ns : List Numbers) → render b (map (on_preset p.to) ns) ≡ render from (map (on_preset p.from) ns)

-- notes on other presets render identically in both banks
abbrev pub KeepsOthers : List TakenPreset → Parts → Parts → Type 0
KeepsOthers presets b c =
    (ns : List Numbers) → AllByRecursion (λ n. is_taken presets n ≡ false) ns → render b ns ≡ render c ns

-- The presets can be taken, and the edits are accepted in order. Afterwards each note has the voices on each taken
-- preset that it has on the original, and notes render on it as on the original; notes on other presets render as
-- before; and the texts are the same.
pub record IsTaking (from : Parts) (presets : List TakenPreset) (b : Parts) (edits : List Edit) : Type 0 where
  pub possible : OfEach (IsTakeable from b) presets
  pub is_accepted : AllAccepted b edits
  pub taken : OfEach (IsCopied from (after_all b edits)) presets
  pub renders : OfEach (CopyRenders from (after_all b edits)) presets
  pub others : KeepsOthers presets b (after_all b edits)
  pub texts : (after_all b edits).texts ≡ b.texts
