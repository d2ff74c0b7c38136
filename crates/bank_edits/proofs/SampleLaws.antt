-- Undo restores the bank, for the forms that edit samples.
use Rattle.std.proofs.Common.{◌≡◌, ◌≤◌, ◌+◌, ℕ, List, length, map, remove, Some, refl, sym, ap, arith, ◌<◌}
use Rattle.std.proofs.lemmas.List.{length-map}
use Rattle.std.proofs.lemmas.List.Edits.{length-insert, length-remove}
use Rattle.std.specs.Prelude.{slice_get, IfSome}
use Rattle.base_numbered_lists.specs.declared.renumbering.Renumbering.TheVariants.{Insertion, Removal}
use Rattle.base_numbered_lists.proofs.Lists.{slice_get-found, slice_get-insert, slice_get-changed, length-changed}
use Rattle.base_numbered_lists.proofs.Lists.{changed-back}
use Rattle.bank_parts.specs.declared.parts.Sample.{Sample}
use Rattle.bank_parts.specs.declared.parts.Parts.{Parts}
use Rattle.bank_parts.specs.Renumbered.{sample_renumbered}
use Rattle.bank_parts.specs.Valid.{IsSample}
use Rattle.bank_parts.specs.Fits.{FitsSample}
use Rattle.bank_parts.specs.Sound.{IsSound}
use Rattle.bank_changes.specs.Samples.{named, sample_renamed, sample_added, sample_removed}
use Rattle.bank_changes.proofs.Changes.{all_found}
use Rattle.bank_changes.proofs.SampleLaws.{renamed_sound, restored_added, restored_removed, restored_moved}
use Rattle.bank_changes.proofs.SampleLaws.{added_unused, length-sample_moved}
use Rattle.edit_forms.specs.declared.samples.SampleStep.TheVariants.{RenameSample, AddSample, RemoveSample, MoveSample}
use Rattle.edit_forms.specs.declared.step.Step.TheVariants as steps
use Rattle.edit_refusals.proofs.Accepted.{accepted, not_below}
use Rattle.edit_refusals.proofs.SampleLaws.{there_of_rename, add_sample_allowed, tests_add}
use Rattle.edit_refusals.proofs.SampleLaws.{sound_add, remove_sample_allowed, sound_remove}
use Rattle.edit_refusals.proofs.SampleLaws.{moves_sample, sound_move_sample}
use Rattle.edit_forms.specs.declared.cause.Cause.TheVariants.{NoSuchSample}
use Rattle.edit_refusals.proofs.Moves.{tests_move, moves_back}
use Rattle.bank_edits.proofs.UndoneBy.{IsAccepted, IsUndone, undone_by}
use Rattle.edit_forms.specs.declared.samples.SampleStep.{SampleStep}
use Rattle.edit_forms.specs.Steps.{inverse}

-- ---- the inverse step, built from what the bank returns

pub inverse_of_rename : (b : Parts) (i : ℕ) (name old : List ℕ) → i < length b.samples
    → IfSome (slice_get b.samples i) (λ (s : Sample). old ≡ s.name)
    → steps.Sample (RenameSample i old) ≡ inverse b (steps.Sample (RenameSample i name))
inverse_of_rename b i name old lt h =
    let (s, e) = slice_get-found b.samples i lt in
    let same : old ≡ s.name = rw e at h in
    rw e (ap (λ (n : List ℕ). steps.Sample (RenameSample i n)) same)

-- ---- rename-sample

pub undone_rename : (b : Parts) (i : ℕ) (name : List ℕ) → IsSound b → IsAccepted b (steps.Sample (RenameSample i name))
    → IsUndone b (steps.Sample (RenameSample i name))
undone_rename b i name s t =
    let lt = there_of_rename b i name t.accepted in
    let (x, e) = slice_get-found b.samples i lt in
    let same = length-changed b.samples i (named name) in
    undone_by b (steps.Sample (RenameSample i name)) (steps.Sample (RenameSample i x.name)) s (record {
      is = rw e refl;
      sound = renamed_sound b i name s t.fits.1;
      fits = (t.fits.0, (all_found FitsSample b.samples i x e s.fits.samples).name);
      tests = (not_below (length (sample_renamed b i name).samples) i (omega (arith, same, lt)), tt);
      restored =
          ap (λ (samples : List Sample). record b { samples = samples })
          (changed-back b.samples i (named name) (named x.name) x e refl);
      redone = let now = slice_get-changed b.samples i (named name) x e in rw now refl;
    })

-- ---- add-sample

pub undone_add : (b : Parts) (i : ℕ) (x : Sample) → IsSound b → IsAccepted b (steps.Sample (AddSample i x))
    → IsUndone b (steps.Sample (AddSample i x))
undone_add b i x s t =
    let g = add_sample_allowed b i x (accepted b (steps.Sample (AddSample i x)) t.accepted).tests in
    let le = g.place in
    let others = map (sample_renumbered (Insertion i)) b.samples in
    let same = length-map b.samples (sample_renumbered (Insertion i)) in
    let inside : i ≤ length others = omega (arith, same, le) in
    let size = length-insert others i x inside in
    let there : slice_get (sample_added b i x).samples i ≡ Some x = slice_get-insert others i x inside in
    undone_by b (steps.Sample (AddSample i x)) (steps.Sample (RemoveSample i)) s (record {
      is = refl;
      sound = sound_add b i x s t.fits.1 t.accepted;
      fits = t.fits.0;
      tests = (
        not_below (length (sample_added b i x).samples) i (omega (arith, size, inside)),
        (added_unused b i x le, tt),
      );
      restored = restored_added b i x le;
      redone = rw there refl;
    })

-- ---- remove-sample

pub undone_remove : (b : Parts) (i : ℕ) → IsSound b → IsAccepted b (steps.Sample (RemoveSample i))
    → IsUndone b (steps.Sample (RemoveSample i))
undone_remove b i s t =
    let c = remove_sample_allowed b i (accepted b (steps.Sample (RemoveSample i)) t.accepted).tests in
    let lt = c.there in
    let (x, e) = slice_get-found b.samples i lt in
    let less = length-remove b.samples i lt in
    let same = length-map (remove b.samples i) (sample_renumbered (Removal i)) in
    let one_less : length b.samples ≡ length (sample_removed b i).samples + 1 = omega (arith, less, same) in
    let is = all_found (IsSample (length b.samples)) b.samples i x e s.valid.samples in
    let is_then : IsSample (length (sample_removed b i).samples + 1) x = rw one_less at is in
    undone_by b (steps.Sample (RemoveSample i)) (steps.Sample (AddSample i x)) s (record {
      is = rw e refl;
      sound = sound_remove b i s t.accepted;
      fits = (t.fits, all_found FitsSample b.samples i x e s.fits.samples);
      tests =
          tests_add (sample_removed b i) i x
          (record { link = is_then.kind; place = omega (arith, one_less, lt); looped = is.looped });
      restored = restored_removed b i x e c.free;
      redone = refl;
    })

-- ---- move-sample

pub undone_move_sample : (b : Parts) (i j : ℕ) → IsSound b → IsAccepted b (steps.Sample (MoveSample i j))
    → IsUndone b (steps.Sample (MoveSample i j))
undone_move_sample b i j s t =
    let m = moves_sample b i j t.accepted in
    let back = moves_back m (sym (length-sample_moved b i j m.there m.place)) in
    undone_by b (steps.Sample (MoveSample i j)) (steps.Sample (MoveSample j i)) s (record {
      is = refl;
      sound = sound_move_sample b i j s t.accepted;
      fits = (t.fits.1, t.fits.0);
      tests = tests_move _ j i NoSuchSample back;
      restored = restored_moved b i j m.there m.place;
      redone = refl;
    })

-- ---- all these forms

pub undone_sample : (b : Parts) (s : SampleStep) → IsSound b → IsAccepted b (steps.Sample s)
    → IsUndone b (steps.Sample s)
undone_sample b (RenameSample i name) = undone_rename b i name
undone_sample b (AddSample i s) = undone_add b i s
undone_sample b (RemoveSample i) = undone_remove b i
undone_sample b (MoveSample i j) = undone_move_sample b i j
