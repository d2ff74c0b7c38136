-- Undo restores the bank, for the forms that edit instruments.
use Rattle.std.proofs.Common.{◌≡◌, ℕ, List, length, Some, refl, sym, ap, arith}
use Rattle.std.proofs.lemmas.List.Edits.{length-insert, length-remove}
use Rattle.std.specs.Prelude.{slice_get}
use Rattle.sf_base.specs.Names.{IsName}
use Rattle.base_numbered_lists.proofs.Lists.{slice_get-found, slice_get-insert, slice_get-changed, length-changed}
use Rattle.base_numbered_lists.proofs.Lists.{changed-back}
use Rattle.generators.specs.declared.level.Level.TheVariants as level
use Rattle.bank_parts.specs.declared.parts.ZoneOwner.{ZoneOwner}
use Rattle.bank_parts.specs.declared.parts.Parts.{Parts}
use Rattle.bank_parts.specs.Owners.{with_head, head_at}
use Rattle.bank_parts.specs.Valid.{IsInstrument}
use Rattle.bank_parts.specs.Fits.{FitsOwner}
use Rattle.bank_parts.specs.Sound.{IsSound}
use Rattle.bank_changes.specs.Instruments.{instrument_added, instrument_removed, instrument_renamed}
use Rattle.bank_changes.proofs.Changes.{all_found}
use Rattle.bank_changes.proofs.InstrumentLaws.{restored_added_instrument, added_instrument_unused}
use Rattle.bank_changes.proofs.InstrumentLaws.{restored_removed_instrument, instrument_renamed_sound}
use Rattle.bank_changes.proofs.InstrumentLaws.{length-instrument_moved, restored_instrument_moved}
use Rattle.edit_forms.specs.declared.instruments.InstrumentStep.TheVariants.{AddInstrument, RemoveInstrument}
use Rattle.edit_forms.specs.declared.instruments.InstrumentStep.TheVariants.{RenameInstrument, MoveInstrument}
use Rattle.edit_forms.specs.declared.step.Step.TheVariants as steps
use Rattle.edit_refusals.proofs.Accepted.{accepted, not_below}
use Rattle.edit_forms.specs.declared.cause.Cause.TheVariants.{NoSuchInstrument, NoSuchSample}
use Rattle.edit_refusals.proofs.Moves.{tests_move, moves_back}
use Rattle.edit_refusals.proofs.OwnerLaws.{tests_add}
use Rattle.edit_refusals.proofs.InstrumentLaws.{add_instrument_allowed, sound_add_instrument, remove_instrument_allowed}
use Rattle.edit_refusals.proofs.InstrumentLaws.{sound_remove_instrument, there_of_rename_instrument}
use Rattle.edit_refusals.proofs.InstrumentLaws.{moves_instrument, sound_move_instrument}
use Rattle.bank_edits.proofs.UndoneBy.{IsAccepted, IsUndone, undone_by}
use Rattle.edit_forms.specs.declared.instruments.InstrumentStep.{InstrumentStep}
use Rattle.edit_forms.specs.Steps.{inverse}

-- ---- the inverse step, built from what the bank returns

pub inverse_of_rename_instrument : (b : Parts) (i : ℕ) (name old : List ℕ) → head_at b.instruments i ≡ Some old
    → steps.Instrument (RenameInstrument i old) ≡ inverse b (steps.Instrument (RenameInstrument i name))
inverse_of_rename_instrument b i name old e = rw e refl

-- ---- add-inst

pub undone_add_instrument : (b : Parts) (i : ℕ) (x : ZoneOwner (List ℕ)) → IsSound b
    → IsAccepted b (steps.Instrument (AddInstrument i x)) → IsUndone b (steps.Instrument (AddInstrument i x))
undone_add_instrument b i x s t =
    let le = (add_instrument_allowed b i x t.fits.1 t.accepted).place in
    let size = length-insert b.instruments i x le in
    let there : slice_get (instrument_added b i x).instruments i ≡ Some x = slice_get-insert b.instruments i x le in
    undone_by b (steps.Instrument (AddInstrument i x)) (steps.Instrument (RemoveInstrument i)) s (record {
      is = refl;
      sound = sound_add_instrument b i x s t.fits.1 t.accepted;
      fits = t.fits.0;
      tests = (
        not_below (length (instrument_added b i x).instruments) i (omega (arith, size, le)),
        (added_instrument_unused b i x, tt),
      );
      restored = restored_added_instrument b i x le;
      redone = rw there refl;
    })

-- ---- remove-inst

pub undone_remove_instrument : (b : Parts) (i : ℕ) → IsSound b → IsAccepted b (steps.Instrument (RemoveInstrument i))
    → IsUndone b (steps.Instrument (RemoveInstrument i))
undone_remove_instrument b i s t =
    let c = remove_instrument_allowed b i (accepted b (steps.Instrument (RemoveInstrument i)) t.accepted).tests in
    let lt = c.there in
    let (x, e) = slice_get-found b.instruments i lt in
    let less = length-remove b.instruments i lt in
    let is = all_found (IsInstrument (length b.samples)) b.instruments i x e s.valid.instruments in
    undone_by b (steps.Instrument (RemoveInstrument i)) (steps.Instrument (AddInstrument i x)) s (record {
      is = rw e refl;
      sound = sound_remove_instrument b i s t.accepted;
      fits = (t.fits, all_found (FitsOwner IsName) b.instruments i x e s.fits.instruments);
      tests =
          tests_add (λ name. name) level.Inst (length b.samples) (length (instrument_removed b i).instruments)
          i x NoSuchSample (record { place = omega (arith, less, lt); is = is });
      restored = restored_removed_instrument b i x e c.free;
      redone = refl;
    })

-- ---- rename-inst

pub undone_rename_instrument : (b : Parts) (i : ℕ) (name : List ℕ) → IsSound b
    → IsAccepted b (steps.Instrument (RenameInstrument i name))
    → IsUndone b (steps.Instrument (RenameInstrument i name))
undone_rename_instrument b i name s t =
    let lt = there_of_rename_instrument b i name t.accepted in
    let (x, e) = slice_get-found b.instruments i lt in
    let same = length-changed b.instruments i (with_head name) in
    undone_by b (steps.Instrument (RenameInstrument i name)) (steps.Instrument (RenameInstrument i x.head)) s (record {
      is = rw e refl;
      sound = instrument_renamed_sound b i name s t.fits.1;
      fits = (t.fits.0, (all_found (FitsOwner IsName) b.instruments i x e s.fits.instruments).head);
      tests = (not_below (length (instrument_renamed b i name).instruments) i (omega (arith, same, lt)), tt);
      restored =
          ap (λ (instruments : List (ZoneOwner (List ℕ))). record b { instruments = instruments })
          (changed-back b.instruments i (with_head name) (with_head x.head) x e refl);
      redone = let now = slice_get-changed b.instruments i (with_head name) x e in rw now refl;
    })

-- ---- move-inst

pub undone_move_instrument : (b : Parts) (i j : ℕ) → IsSound b → IsAccepted b (steps.Instrument (MoveInstrument i j))
    → IsUndone b (steps.Instrument (MoveInstrument i j))
undone_move_instrument b i j s t =
    let m = moves_instrument b i j t.accepted in
    let back = moves_back m (sym (length-instrument_moved b i j m.there m.place)) in
    undone_by b (steps.Instrument (MoveInstrument i j)) (steps.Instrument (MoveInstrument j i)) s (record {
      is = refl;
      sound = sound_move_instrument b i j s t.accepted;
      fits = (t.fits.1, t.fits.0);
      tests = tests_move _ j i NoSuchInstrument back;
      restored = restored_instrument_moved b i j m.there m.place;
      redone = refl;
    })

-- ---- all these forms

pub undone_instrument : (b : Parts) (s : InstrumentStep) → IsSound b → IsAccepted b (steps.Instrument s)
    → IsUndone b (steps.Instrument s)
undone_instrument b (AddInstrument i x) = undone_add_instrument b i x
undone_instrument b (RemoveInstrument i) = undone_remove_instrument b i
undone_instrument b (RenameInstrument i name) = undone_rename_instrument b i name
undone_instrument b (MoveInstrument i j) = undone_move_instrument b i j
