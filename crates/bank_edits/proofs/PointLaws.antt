-- Undo restores the bank, for the forms that edit one sample's points, loop, kind or pitch.
use Rattle.std.proofs.Common.{◌≡◌, ◌<◌, ◌≤◌, ◌+◌, ◌-◌, ◌^◌, ℕ, ℤ, List, length, take, drop, slice_get, Option, Some}
use Rattle.std.proofs.Common.{refl, ap, arith, FitsSigned, w8}
use Rattle.std.proofs.lemmas.List.Elements.{All-take, All-drop, All-from_recursion, recursion_from_All}
use Rattle.sample_view.specs.Words.{AreWords}
use Rattle.base_numbered_lists.proofs.Lists.{slice_get-found, slice_get-changed, changed-back}
use Rattle.bank_parts.specs.declared.parts.Kind.{Kind}
use Rattle.bank_parts.specs.declared.parts.Sample.{Sample}
use Rattle.bank_parts.specs.declared.parts.Parts.{Parts}
use Rattle.bank_parts.specs.Sound.{IsSound}
use Rattle.bank_changes.specs.Points.{points_of, loop_of, trimmed, extended, with_loop, with_kind, with_tune}
use Rattle.bank_changes.specs.Points.{sample_trimmed, sample_extended, loop_set, kind_set, tune_set}
use Rattle.bank_changes.proofs.PointLaws.{OutsideLoop, there_valid, there_fits, length-sample_changed}
use Rattle.bank_changes.proofs.PointLaws.{length-extended, few_points, length-front, length-back, trim_returned}
use Rattle.bank_changes.proofs.PointLaws.{front_cut, back_cut, extension_returned, extension_outside}
use Rattle.edit_forms.specs.declared.points.PointStep.TheVariants.{Trim, Extend, SetLoop, SetKind, SetTune}
use Rattle.edit_forms.specs.declared.step.Step.TheVariants as steps
use Rattle.edit_refusals.proofs.Accepted.{accepted, not_below}
use Rattle.edit_refusals.proofs.PointLaws.{trims, tests_trim, sound_trim, there_of_extend, sound_extend, loops}
use Rattle.edit_refusals.proofs.PointLaws.{tests_loop, sound_loop, links, tests_kind, sound_kind, there_of_tune}
use Rattle.edit_refusals.proofs.PointLaws.{sound_tune}
use Rattle.bank_edits.proofs.UndoneBy.{IsAccepted, IsUndone, undone_by}
use Rattle.edit_forms.specs.declared.points.PointStep.{PointStep}
use Rattle.std.specs.Prelude.{slice_get, IfSome}
use Rattle.edit_forms.specs.Steps.{inverse}

-- ---- the inverse step, built from what the bank returns

module _ (b : Parts) (i : ℕ) (lt : i < length b.samples) where
  pub correction_fits : IsSound b → (old : ℤ) → IfSome (slice_get b.samples i) (λ (s : Sample). old ≡ s.correction)
      → FitsSigned w8 old
  correction_fits sound old h =
      let (s, e) = slice_get-found b.samples i lt in
      let same : old ≡ s.correction = rw e at h in
      let fits = there_fits b i s e sound in
      rw same fits.correction

  pub inverse_of_set_tune : (rate key : ℕ) (correction : ℤ) (old_rate old_key : ℕ) (old_correction : ℤ)
      → IfSome (slice_get b.samples i) (λ (s : Sample). old_rate ≡ s.rate)
      → IfSome (slice_get b.samples i) (λ (s : Sample). old_key ≡ s.key)
      → IfSome (slice_get b.samples i) (λ (s : Sample). old_correction ≡ s.correction)
      → steps.Points i (SetTune old_rate old_key old_correction)
      ≡ inverse b (steps.Points i (SetTune rate key correction))
  inverse_of_set_tune rate key correction old_rate old_key old_correction r k c =
      let (s, e) = slice_get-found b.samples i lt in
      let same_rate : old_rate ≡ s.rate = rw e at r in
      let same_key : old_key ≡ s.key = rw e at k in
      let same_correction : old_correction ≡ s.correction = rw e at c in
      rw e (λ i2. steps.Points i (SetTune (same_rate i2) (same_key i2) (same_correction i2)))

-- ---- trim

first_fit : (points : List ℕ) (n : ℕ) → AreWords points → AreWords (take n points)
first_fit points n h =
    let P : ℕ → Type 0 = λ p. p < 2 ^ 16 in
    recursion_from_All P (take n points) (All-take P n points (All-from_recursion P points h))

last_fit : (points : List ℕ) (n : ℕ) → AreWords points → AreWords (drop n points)
last_fit points n h =
    let P : ℕ → Type 0 = λ p. p < 2 ^ 16 in
    recursion_from_All P (drop n points) (All-drop P n points (All-from_recursion P points h))

pub undone_trim : (b : Parts) (i front back : ℕ) → IsSound b → IsAccepted b (steps.Points i (Trim front back))
    → IsUndone b (steps.Points i (Trim front back))
undone_trim b i front back s t =
    let c = trims b i front back (accepted b (steps.Points i (Trim front back)) t.accepted).tests in
    let lt = c.there in
    let (x, e) = slice_get-found b.samples i lt in
    let inside : front + back ≤ length x.points = rw e at c.inside in
    let outside : OutsideLoop (length x.points) front back x.looped = rw e at c.outside in
    let size = length-sample_changed b i (trimmed front back) x e in
    let v = there_valid b i x e s in
    let g = there_fits b i x e s in
    undone_by b (steps.Points i (Trim front back))
    (steps.Points i (Extend (take front x.points) (drop (length x.points - back) x.points))) s (record {
      is = rw e refl;
      sound = sound_trim b i front back s c;
      fits = (t.fits.0, (first_fit x.points front g.points, last_fit x.points (length x.points - back) g.points));
      tests = (not_below (length (sample_trimmed b i front back).samples) i (omega (arith, size, lt)), tt);
      restored = ap (λ (samples : List Sample). record b { samples = samples })
          (changed-back b.samples i (trimmed front back)
          (extended (take front x.points) (drop (length x.points - back) x.points)) x e
          (trim_returned front back x inside outside v.looped));
      redone = λ k. steps.Points i (Trim (length-front front back x inside k) (length-back front back x inside k));
    })

-- ---- extend

pub undone_extend : (b : Parts) (i : ℕ) (front back : List ℕ) → IsSound b
    → IsAccepted b (steps.Points i (Extend front back)) → IsUndone b (steps.Points i (Extend front back))
undone_extend b i front back s t =
    let lt = there_of_extend b i front back t.accepted in
    let (x, e) = slice_get-found b.samples i lt in
    let then_is : slice_get (sample_extended b i front back).samples i ≡ Some (extended front back x) =
    slice_get-changed b.samples i (extended front back) x e in
    let size = length-sample_changed b i (extended front back) x e in
    let more = length-extended front back x in
    let few = few_points b i front back x e (accepted b (steps.Points i (Extend front back)) t.accepted).limits in
    let v = there_valid b i x e s in
    let inside : length front + length back ≤ length (points_of (sample_extended b i front back) i) =
    rw then_is (omega (arith, more)) in
    let outside : OutsideLoop (length (points_of (sample_extended b i front back) i)) (length front) (length back)
    (loop_of (sample_extended b i front back) i) =
    rw then_is (extension_outside front back x v.looped) in
    undone_by b (steps.Points i (Extend front back)) (steps.Points i (Trim (length front) (length back))) s (record {
      is = refl;
      sound = sound_extend b i front back s t.fits.1.0 t.fits.1.1 t.accepted;
      fits = (t.fits.0, (omega (arith, few, more), omega (arith, few, more)));
      tests =
          tests_trim (sample_extended b i front back) i (length front) (length back)
          (record { there = omega (arith, size, lt); inside = inside; outside = outside });
      restored = ap (λ (samples : List Sample). record b { samples = samples })
          (changed-back b.samples i (extended front back) (trimmed (length front) (length back)) x e
          (extension_returned front back x));
      redone = rw then_is (λ k. steps.Points i (Extend (front_cut front back x k) (back_cut front back x k)));
    })

-- ---- set-loop

pub undone_set_loop : (b : Parts) (i : ℕ) (looped : Option (ℕ × ℕ)) → IsSound b
    → IsAccepted b (steps.Points i (SetLoop looped)) → IsUndone b (steps.Points i (SetLoop looped))
undone_set_loop b i looped s t =
    let l = loops b i looped (accepted b (steps.Points i (SetLoop looped)) t.accepted).tests in
    let lt = l.there in
    let (x, e) = slice_get-found b.samples i lt in
    let then_is = slice_get-changed b.samples i (with_loop looped) x e in
    let size = length-sample_changed b i (with_loop looped) x e in
    let v = there_valid b i x e s in
    let g = there_fits b i x e s in
    undone_by b (steps.Points i (SetLoop looped)) (steps.Points i (SetLoop x.looped)) s (record {
      is = rw e refl;
      sound = sound_loop b i looped s l;
      fits = (t.fits.0, g.looped);
      tests =
          tests_loop (loop_set b i looped) i x.looped
          (record { there = omega (arith, size, lt); inside = rw then_is v.looped });
      restored =
          ap (λ (samples : List Sample). record b { samples = samples })
          (changed-back b.samples i (with_loop looped) (with_loop x.looped) x e refl);
      redone = rw then_is refl;
    })

-- ---- set-kind

pub undone_set_kind : (b : Parts) (i : ℕ) (kind : Kind) → IsSound b → IsAccepted b (steps.Points i (SetKind kind))
    → IsUndone b (steps.Points i (SetKind kind))
undone_set_kind b i kind s t =
    let l = links b i kind (accepted b (steps.Points i (SetKind kind)) t.accepted).tests in
    let lt = l.there in
    let (x, e) = slice_get-found b.samples i lt in
    let then_is = slice_get-changed b.samples i (with_kind kind) x e in
    let size = length-sample_changed b i (with_kind kind) x e in
    let v = there_valid b i x e s in
    let g = there_fits b i x e s in
    undone_by b (steps.Points i (SetKind kind)) (steps.Points i (SetKind x.kind)) s (record {
      is = rw e refl;
      sound = sound_kind b i kind s l;
      fits = (t.fits.0, g.kind);
      tests =
          tests_kind (kind_set b i kind) i x.kind
          (record { there = omega (arith, size, lt); link = rw size v.kind });
      restored =
          ap (λ (samples : List Sample). record b { samples = samples })
          (changed-back b.samples i (with_kind kind) (with_kind x.kind) x e refl);
      redone = rw then_is refl;
    })

-- ---- set-tune

pub undone_set_tune : (b : Parts) (i rate key : ℕ) (correction : ℤ) → IsSound b
    → IsAccepted b (steps.Points i (SetTune rate key correction))
    → IsUndone b (steps.Points i (SetTune rate key correction))
undone_set_tune b i rate key correction s t =
    let lt = there_of_tune b i rate key correction t.accepted in
    let (x, e) = slice_get-found b.samples i lt in
    let then_is = slice_get-changed b.samples i (with_tune rate key correction) x e in
    let size = length-sample_changed b i (with_tune rate key correction) x e in
    let g = there_fits b i x e s in
    undone_by b (steps.Points i (SetTune rate key correction)) (steps.Points i
    (SetTune x.rate x.key x.correction)) s (record {
      is = rw e refl;
      sound = sound_tune b i rate key correction s t.fits.1.0 t.fits.1.1 t.fits.1.2 lt;
      fits = (t.fits.0, (g.rate, g.key, g.correction));
      tests = (not_below (length (tune_set b i rate key correction).samples) i (omega (arith, size, lt)), tt);
      restored =
          ap (λ (samples : List Sample). record b { samples = samples })
          (changed-back b.samples i (with_tune rate key correction) (with_tune x.rate x.key x.correction) x e refl);
      redone = rw then_is refl;
    })

-- ---- all these forms

pub undone_points : (b : Parts) (i : ℕ) (s : PointStep) → IsSound b → IsAccepted b (steps.Points i s)
    → IsUndone b (steps.Points i s)
undone_points b i (Trim front back) = undone_trim b i front back
undone_points b i (Extend front back) = undone_extend b i front back
undone_points b i (SetLoop looped) = undone_set_loop b i looped
undone_points b i (SetKind kind) = undone_set_kind b i kind
undone_points b i (SetTune rate key correction) = undone_set_tune b i rate key correction
