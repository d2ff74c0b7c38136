-- Undo restores the bank, for the forms that edit presets.
use Rattle.std.proofs.Common.{◌≡◌, ℕ, List, length, Some, refl, sym, arith}
use Rattle.std.proofs.lemmas.List.Edits.{length-insert, length-remove}
use Rattle.std.specs.Prelude.{slice_get}
use Rattle.base_numbered_lists.proofs.Lists.{slice_get-found, slice_get-insert}
use Rattle.generators.specs.declared.level.Level.TheVariants as level
use Rattle.bank_parts.specs.declared.parts.Head.{Head}
use Rattle.bank_parts.specs.declared.parts.ZoneOwner.{ZoneOwner}
use Rattle.bank_parts.specs.declared.parts.Parts.{Parts}
use Rattle.bank_parts.specs.Valid.{IsPreset}
use Rattle.bank_parts.specs.Fits.{FitsHead, FitsOwner}
use Rattle.bank_parts.specs.Sound.{IsSound}
use Rattle.bank_changes.specs.Presets.{preset_added, preset_removed, head_set}
use Rattle.bank_changes.proofs.Changes.{all_found}
use Rattle.bank_changes.proofs.PresetLaws.{length-preset_moved, length-head_set, head_set_sound, read_head_set}
use Rattle.bank_changes.proofs.PresetLaws.{restored_added_preset, restored_removed_preset, restored_preset_moved}
use Rattle.bank_changes.proofs.PresetLaws.{restored_head_set}
use Rattle.edit_forms.specs.declared.presets.PresetStep.TheVariants.{AddPreset, RemovePreset, MovePreset, SetHead}
use Rattle.edit_forms.specs.declared.step.Step.TheVariants as steps
use Rattle.edit_forms.specs.declared.cause.Cause.TheVariants.{NoSuchPreset, NoSuchInstrument}
use Rattle.edit_refusals.proofs.Accepted.{not_below}
use Rattle.edit_refusals.proofs.Moves.{tests_move, moves_back}
use Rattle.edit_refusals.proofs.OwnerLaws.{tests_add}
use Rattle.edit_refusals.proofs.PresetLaws.{add_preset_allowed, sound_add_preset, there_of_remove_preset}
use Rattle.edit_refusals.proofs.PresetLaws.{sound_remove_preset, moves_preset, sound_move_preset, there_of_set_head}
use Rattle.bank_edits.proofs.UndoneBy.{IsAccepted, IsUndone, undone_by}
use Rattle.edit_forms.specs.declared.presets.PresetStep.{PresetStep}
use Rattle.bank_parts.specs.Owners.{head_at}
use Rattle.edit_forms.specs.Steps.{inverse}

-- ---- the inverse step, built from what the bank returns

pub inverse_of_set_head : (b : Parts) (i : ℕ) (name : List ℕ) (number bank : ℕ) (old : Head)
    → head_at b.presets i ≡ Some old
    → steps.Preset (SetHead i old.name old.number old.bank) ≡ inverse b (steps.Preset (SetHead i name number bank))
inverse_of_set_head b i name number bank old e = rw e refl

-- ---- add-preset

pub undone_add_preset : (b : Parts) (i : ℕ) (p : ZoneOwner Head) → IsSound b
    → IsAccepted b (steps.Preset (AddPreset i p)) → IsUndone b (steps.Preset (AddPreset i p))
undone_add_preset b i p s t =
    let le = (add_preset_allowed b i p t.fits.1 t.accepted).place in
    let size = length-insert b.presets i p le in
    let there : slice_get (preset_added b i p).presets i ≡ Some p = slice_get-insert b.presets i p le in
    undone_by b (steps.Preset (AddPreset i p)) (steps.Preset (RemovePreset i)) s (record {
      is = refl;
      sound = sound_add_preset b i p s t.fits.1 t.accepted;
      fits = t.fits.0;
      tests = (not_below (length (preset_added b i p).presets) i (omega (arith, size, le)), tt);
      restored = restored_added_preset b i p le;
      redone = rw there refl;
    })

-- ---- remove-preset

pub undone_remove_preset : (b : Parts) (i : ℕ) → IsSound b → IsAccepted b (steps.Preset (RemovePreset i))
    → IsUndone b (steps.Preset (RemovePreset i))
undone_remove_preset b i s t =
    let lt = there_of_remove_preset b i t.accepted in
    let (p, e) = slice_get-found b.presets i lt in
    let less = length-remove b.presets i lt in
    let is = all_found (IsPreset (length b.instruments)) b.presets i p e s.valid.presets in
    undone_by b (steps.Preset (RemovePreset i)) (steps.Preset (AddPreset i p)) s (record {
      is = rw e refl;
      sound = sound_remove_preset b i s t.accepted;
      fits = (t.fits, all_found (FitsOwner FitsHead) b.presets i p e s.fits.presets);
      tests =
          tests_add (λ (h : Head). h.name) level.Preset (length b.instruments) (length (preset_removed b i).presets)
          i p NoSuchInstrument (record { place = omega (arith, less, lt); is = is });
      restored = restored_removed_preset b i p e;
      redone = refl;
    })

-- ---- move-preset

pub undone_move_preset : (b : Parts) (i j : ℕ) → IsSound b → IsAccepted b (steps.Preset (MovePreset i j))
    → IsUndone b (steps.Preset (MovePreset i j))
undone_move_preset b i j s t =
    let m = moves_preset b i j t.accepted in
    let back = moves_back m (sym (length-preset_moved b i j m.there m.place)) in
    undone_by b (steps.Preset (MovePreset i j)) (steps.Preset (MovePreset j i)) s (record {
      is = refl;
      sound = sound_move_preset b i j s t.accepted;
      fits = (t.fits.1, t.fits.0);
      tests = tests_move _ j i NoSuchPreset back;
      restored = restored_preset_moved b i j m.there m.place;
      redone = refl;
    })

-- ---- set-head

pub undone_set_head : (b : Parts) (i : ℕ) (name : List ℕ) (number bank : ℕ) → IsSound b
    → IsAccepted b (steps.Preset (SetHead i name number bank)) → IsUndone b (steps.Preset (SetHead i name number bank))
undone_set_head b i name number bank s t =
    let lt = there_of_set_head b i name number bank t.accepted in
    let (x, e) = slice_get-found b.presets i lt in
    let same = length-head_set b i name number bank in
    let was = (all_found (FitsOwner FitsHead) b.presets i x e s.fits.presets).head in
    undone_by b (steps.Preset (SetHead i name number bank))
    (steps.Preset (SetHead i x.head.name x.head.number x.head.bank)) s (record {
      is = rw e refl;
      sound = head_set_sound b i name number bank s t.fits.1 t.fits.2 t.fits.3;
      fits = (t.fits.0, was.name, was.number, was.bank);
      tests = (not_below (length (head_set b i name number bank).presets) i (omega (arith, same, lt)), tt);
      restored = restored_head_set b i name number bank x e;
      redone = let now = read_head_set b i name number bank x e in rw now refl;
    })

-- ---- all these forms

pub undone_preset : (b : Parts) (s : PresetStep) → IsSound b → IsAccepted b (steps.Preset s)
    → IsUndone b (steps.Preset s)
undone_preset b (AddPreset i p) = undone_add_preset b i p
undone_preset b (RemovePreset i) = undone_remove_preset b i
undone_preset b (MovePreset i j) = undone_move_preset b i j
undone_preset b (SetHead p name number bank) = undone_set_head b p name number bank
