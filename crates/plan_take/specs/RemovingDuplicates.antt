-- A bank without duplicates of its samples and instruments.
use Rattle.std.specs.Prelude.{◌≡◌, ◌<◌, ℕ, List, length, Option, slice_get}
use Rattle.bank_parts.specs.declared.parts.Head.{Head}
use Rattle.bank_parts.specs.declared.parts.ZoneOwner.{ZoneOwner}
use Rattle.bank_parts.specs.declared.parts.Parts.{Parts}
use Rattle.script_notes.specs.Notes.{Numbers}
use Rattle.zone_select.specs.Select.{selected}
use Rattle.mixer.specs.Render.{render}
use Rattle.edit_forms.specs.declared.edit.Edit.{Edit}
use Rattle.bank_edits.specs.Runs.{AllAccepted, after_all}
use Rattle.plan_edits.specs.Uses.{HasNoUnused}
use Rattle.plan_take.specs.Matches.{AreBoth, Renumbered}

-- two presets with equal heads, whose zones match with the numbers that their targets have
pub record IsSamePreset (instruments : List (Option ℕ)) (p q : ZoneOwner Head) : Type 0 where
  pub head : p.head ≡ q.head
  pub zones : Renumbered instruments p q

-- two lists of such presets, in the same order
pub record AreSamePresets (instruments : List (Option ℕ)) (ps qs : List (ZoneOwner Head)) : Type 0 where
  pub count : length ps ≡ length qs
  pub each : (i : ℕ) → i < length ps → AreBoth (IsSamePreset instruments) (slice_get ps i) (slice_get qs i)

-- each note has the same voices in both banks, in the same order
abbrev pub KeepsAllVoices : Parts → Parts → Type 0
KeepsAllVoices b c = (n : Numbers) → selected b n ≡ selected c n

-- The edits are accepted in order. Afterwards all notes render as before, and no instrument or sample is unused.
pub record IsRemovingDuplicates (b : Parts) (edits : List Edit) : Type 0 where
  pub is_accepted : AllAccepted b edits
  pub same : (ns : List Numbers) → render b ns ≡ render (after_all b edits) ns
  pub used : HasNoUnused (after_all b edits)
