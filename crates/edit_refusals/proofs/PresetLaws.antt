-- The forms that edit presets: when each is accepted.
use Rattle.std.proofs.Common.{◌≡◌, ◌<◌, ◌≤◌, ℕ, List, length, None, ◌∙◌, ap, true, refl}
use Rattle.generators.specs.declared.level.Level.TheVariants as level
use Rattle.bank_parts.specs.declared.parts.Head.{Head}
use Rattle.bank_parts.specs.declared.parts.ZoneOwner.{ZoneOwner}
use Rattle.bank_parts.specs.declared.parts.Parts.{Parts}
use Rattle.bank_parts.specs.Valid.{IsValid}
use Rattle.bank_parts.specs.Fits.{FitsHead, FitsOwner}
use Rattle.bank_parts.specs.Sound.{IsSound}
use Rattle.bank_parts.specs.Counts.{records_of_owner}
use Rattle.bank_validity.specs.Limits.{totals_of, broken, broken_limit, with_owner}
use Rattle.bank_validity.proofs.LimitLaws.{no_limit_of}
use Rattle.bank_changes.specs.Presets.{preset_added, preset_removed, preset_moved, head_set}
use Rattle.bank_changes.proofs.PresetLaws.{totals-added_preset, totals-preset_moved, totals-head_set}
use Rattle.bank_changes.proofs.PresetLaws.{sound_added_preset, sound_removed_preset, preset_moved_sound}
use Rattle.edit_forms.specs.declared.presets.PresetStep.TheVariants.{AddPreset, RemovePreset, MovePreset, SetHead}
use Rattle.edit_forms.specs.declared.step.Step.TheVariants as steps
use Rattle.edit_forms.specs.declared.cause.Cause.TheVariants.{NoSuchPreset, NoSuchInstrument}
use Rattle.edit_forms.specs.Steps.{refusal}
use Rattle.edit_refusals.proofs.Accepted.{accepted, below}
use Rattle.edit_refusals.proofs.Moves.{Moves, moves}
use Rattle.edit_refusals.proofs.OwnerLaws.{AddOwnerAllowed, add_owner_allowed}
use Rattle.edit_forms.specs.declared.presets.PresetStep.{PresetStep}
use Rattle.edit_forms.specs.Presets as presets
use Rattle.edit_refusals.proofs.Rises.{rises}

-- ---- add-preset

module _ (b : Parts) (i : ℕ) (p : ZoneOwner Head) where
  abbrev pub AddPresetAllowed : Type 0
  AddPresetAllowed = AddOwnerAllowed (λ (h : Head). h.name) level.Preset (length b.instruments) (length b.presets) i p

  pub add_preset_allowed : FitsOwner FitsHead p → refusal b (steps.Preset (AddPreset i p)) ≡ None → AddPresetAllowed
  add_preset_allowed fits h =
      add_owner_allowed (λ (h : Head). h.name) level.Preset (length b.instruments) (length b.presets) i p NoSuchInstrument
      fits.head.name (accepted b (steps.Preset (AddPreset i p)) h).tests

  pub sound_add_preset : IsSound b → FitsOwner FitsHead p → refusal b (steps.Preset (AddPreset i p)) ≡ None
      → IsSound (preset_added b i p)
  sound_add_preset sound fits h =
      let g = add_preset_allowed fits h in
      sound_added_preset b i p sound g.is fits (accepted b (steps.Preset (AddPreset i p)) h).limits

  -- the broken limit, computed from totals
  pub limit_add_preset : i ≤ length b.presets
      → broken_limit (preset_added b i p) ≡ broken (with_owner level.Preset (totals_of b) (records_of_owner p))
  limit_add_preset le = ap broken (totals-added_preset b i p le)

-- ---- remove-preset

module _ (b : Parts) (i : ℕ) where
  pub there_of_remove_preset : refusal b (steps.Preset (RemovePreset i)) ≡ None → i < length b.presets
  there_of_remove_preset h = below (length b.presets) i (accepted b (steps.Preset (RemovePreset i)) h).tests.0

  pub sound_remove_preset : IsSound b → refusal b (steps.Preset (RemovePreset i)) ≡ None → IsSound (preset_removed b i)
  sound_remove_preset sound h = sound_removed_preset b i sound (there_of_remove_preset h)

  pub within_remove_preset : IsSound b → i < length b.presets → broken_limit (preset_removed b i) ≡ None
  within_remove_preset sound lt = no_limit_of (preset_removed b i) (sound_removed_preset b i sound lt).valid.limits

-- ---- move-preset

module _ (b : Parts) (i j : ℕ) where
  pub moves_preset : refusal b (steps.Preset (MovePreset i j)) ≡ None → Moves (length b.presets) i j
  moves_preset h = moves (length b.presets) i j NoSuchPreset (accepted b (steps.Preset (MovePreset i j)) h).tests

  pub sound_move_preset : IsSound b → refusal b (steps.Preset (MovePreset i j)) ≡ None → IsSound (preset_moved b i j)
  sound_move_preset sound h = let m = moves_preset h in preset_moved_sound b i j m.there m.place sound

  pub within_move_preset : IsValid b → i < length b.presets → j < length b.presets
      → broken_limit (preset_moved b i j) ≡ None
  within_move_preset v lt lu = ap broken (totals-preset_moved b i j lt lu) ∙ no_limit_of b v.limits

-- ---- set-head

module _ (b : Parts) (i : ℕ) (name : List ℕ) (number bank : ℕ) where
  pub there_of_set_head : refusal b (steps.Preset (SetHead i name number bank)) ≡ None → i < length b.presets
  there_of_set_head h = below (length b.presets) i (accepted b (steps.Preset (SetHead i name number bank)) h).tests.0

  pub within_set_head : IsValid b → broken_limit (head_set b i name number bank) ≡ None
  within_set_head v = ap broken (totals-head_set b i name number bank) ∙ no_limit_of b v.limits

-- ---- the order of their causes

pub preset_rises : (b : Parts) (s : PresetStep) → rises 0 (presets.causes b s) ≡ true
preset_rises b (AddPreset at preset) = refl
preset_rises b (RemovePreset preset) = refl
preset_rises b (MovePreset from to) = refl
preset_rises b (SetHead preset name number bank) = refl
