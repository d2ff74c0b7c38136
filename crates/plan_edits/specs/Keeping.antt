-- What remains of a bank of which some presets are kept.
use Rattle.std.specs.Prelude.{◌≡◌, ◌==◌, ◌&&◌, ℕ, Bool, true, not, List, Option, Some, slice_get}
use Rattle.std.specs.List.{AllByRecursion, find, list_any}
use Rattle.std.specs.List.Sorted.{IsPermutation}
use Rattle.bank_parts.specs.declared.parts.Head.{Head}
use Rattle.bank_parts.specs.declared.parts.ZoneOwner.{ZoneOwner}
use Rattle.bank_parts.specs.declared.parts.Parts.{Parts}
use Rattle.script_notes.specs.Notes.{Numbers}
use Rattle.zone_select.specs.Select.{selected}
use Rattle.mixer.specs.Render.{render}
use Rattle.edit_forms.specs.declared.edit.Edit.{Edit}
use Rattle.bank_edits.specs.Runs.{AllAccepted, after_all}
use Rattle.plan_edits.specs.Uses.{HasNoUnused}
use Rattle.plan_presets.specs.declared.numbers.PresetNumbers.{PresetNumbers}

-- a bank number and a preset number are in a list
abbrev pub is_listed : List PresetNumbers → ℕ → ℕ → Bool
is_listed list bank number = list_any (λ (k : PresetNumbers). k.bank == bank && k.number == number) list

-- the same numbers are in both lists
abbrev pub HaveSameNumbers : List PresetNumbers → List PresetNumbers → Type 0
HaveSameNumbers xs ys = (bank number : ℕ) → is_listed xs bank number ≡ is_listed ys bank number

-- the bank has a preset with these numbers
abbrev pub has_preset : Parts → PresetNumbers → Bool
has_preset b k = list_any (λ (p : ZoneOwner Head). p.head.bank == k.bank && p.head.number == k.number) b.presets

-- the first of these that no preset of the bank has
abbrev pub first_missing : Parts → List PresetNumbers → Option PresetNumbers
first_missing b list = find (λ (k : PresetNumbers). not (has_preset b k)) list

-- a preset that is kept
abbrev pub is_kept : List PresetNumbers → ZoneOwner Head → Bool
is_kept kept p = is_listed kept p.head.bank p.head.number

-- a note of presets that are kept
abbrev pub is_played : List PresetNumbers → Numbers → Bool
is_played kept n = is_listed kept n.bank n.number

-- each preset is kept
abbrev pub OnlyKept : List PresetNumbers → Parts → Type 0
OnlyKept kept b = (i : ℕ) (p : ZoneOwner Head) → slice_get b.presets i ≡ Some p → is_kept kept p ≡ true

-- each such note has the same voices in both banks, in some order
abbrev pub KeepsNotes : List PresetNumbers → Parts → Parts → Type 0
KeepsNotes kept b c = (n : Numbers) → is_played kept n ≡ true → IsPermutation (selected b n) (selected c n)

-- such notes render identically
abbrev pub KeepsSound : List PresetNumbers → Parts → Parts → Type 0
KeepsSound kept b c = (ns : List Numbers) → AllByRecursion (λ n. is_played kept n ≡ true) ns → render b ns ≡ render c ns

-- The edits are accepted in order. Afterwards all notes of kept presets render as before, no other preset is left, and
-- no instrument or sample is unused.
pub record IsKeeping (kept : List PresetNumbers) (b : Parts) (edits : List Edit) : Type 0 where
  pub is_accepted : AllAccepted b edits
  pub same : KeepsSound kept b (after_all b edits)
  pub only : OnlyKept kept (after_all b edits)
  pub used : HasNoUnused (after_all b edits)
