-- The forms that edit one sample's points, loop, kind or pitch: when each is accepted.
use Rattle.std.proofs.Common.{◌≡◌, ◌<◌, ◌≤◌, ◌+◌, ◌^◌, ℕ, ℤ, nat_lt, FitsSigned, w8, false, List, length, Option}
use Rattle.std.proofs.Common.{Some, None, Ok, refl, sym, ◌∙◌, ap, arith, true}
use Rattle.sample_view.specs.Words.{AreWords}
use Rattle.base_numbered_lists.proofs.Lists.{slice_get-found}
use Rattle.bank_parts.specs.declared.parts.Kind.{Kind}
use Rattle.bank_parts.specs.declared.parts.Sample.{Sample}
use Rattle.bank_parts.specs.declared.parts.Parts.{Parts}
use Rattle.bank_parts.specs.Valid.{IsLoop, IsLink}
use Rattle.bank_parts.specs.Fits.{FitsKind}
use Rattle.bank_parts.specs.Sound.{IsSound}
use Rattle.bank_validity.specs.Limits.{totals_of, broken, broken_limit}
use Rattle.bank_validity.proofs.LimitLaws.{no_limit_of}
use Rattle.bank_changes.specs.Points.{points_of, loop_of, with_loop}
use Rattle.bank_changes.specs.Points.{with_kind, with_tune, sample_changed, sample_trimmed}
use Rattle.bank_changes.specs.Points.{sample_extended, loop_set, kind_set, tune_set}
use Rattle.bank_changes.proofs.Everywhere.{or_left, or_right, or_none}
use Rattle.bank_changes.proofs.References.{link_weaker}
use Rattle.bank_changes.proofs.PointLaws.{OutsideLoop, there_valid, there_fits, among, changed_sound, totals_stay}
use Rattle.bank_changes.proofs.PointLaws.{within_trimmed, trimmed_sound, extended_sound, loop_fits}
use Rattle.edit_forms.specs.declared.points.PointStep.TheVariants.{Trim, Extend, SetLoop, SetKind, SetTune}
use Rattle.edit_forms.specs.declared.step.Step.TheVariants as steps
use Rattle.edit_forms.specs.Causes.{cuts_loop, no_such_sample}
use Rattle.edit_forms.specs.Steps.{refusal, causes}
use Rattle.edit_refusals.proofs.Accepted.{NoneApplies, accepted, by_limit, below, not_below, up_to, not_above}
use Rattle.edit_refusals.proofs.SampleLaws.{link_hits, hit_link, loop_hits, hit_loop}
use Rattle.edit_forms.specs.declared.points.PointStep.{PointStep}
use Rattle.edit_forms.specs.Points as points
use Rattle.edit_refusals.proofs.Rises.{rises}

-- ---- a change that keeps the number of points breaks no limit

pub within_change : (b : Parts) (i : ℕ) (f : Sample → Sample) → IsSound b → i < length b.samples
    → ((s : Sample) → length (f s).points ≡ length s.points)
    → broken_limit (sample_changed b i f) ≡ None
within_change b i f sound lt same =
    ap broken (sym (totals_stay b i f lt same)) ∙ no_limit_of b sound.valid.limits

-- ---- trim

pub outside_loop : (n front back : ℕ) (l : Option (ℕ × ℕ)) → cuts_loop n front back l ≡ false
    → OutsideLoop n front back l
outside_loop n front back None h = tt
outside_loop n front back (Some l) h = (
  up_to l.0 front (or_left (nat_lt l.0 front) (nat_lt n (l.1 + back)) h),
  up_to n (l.1 + back) (or_right (nat_lt l.0 front) (nat_lt n (l.1 + back)) h),
)

pub no_cut : (n front back : ℕ) (l : Option (ℕ × ℕ)) → OutsideLoop n front back l → cuts_loop n front back l ≡ false
no_cut n front back None h = refl
no_cut n front back (Some l) h =
    or_none (nat_lt l.0 front) (nat_lt n (l.1 + back)) (not_above l.0 front h.0) (not_above n (l.1 + back) h.1)

module _ (b : Parts) (i front back : ℕ) where
  pub record Trims : Type 0 where
    pub there : i < length b.samples
    pub inside : front + back ≤ length (points_of b i)
    pub outside : OutsideLoop (length (points_of b i)) front back (loop_of b i)

  pub trims : NoneApplies (causes b (steps.Points i (Trim front back))) → Trims
  trims (there, (inside, (outside, end))) = record {
    there = below (length b.samples) i there;
    inside = up_to (length (points_of b i)) (front + back) inside;
    outside = outside_loop (length (points_of b i)) front back (loop_of b i) outside;
  }

  pub tests_trim : Trims → NoneApplies (causes b (steps.Points i (Trim front back)))
  tests_trim t = (
    not_below (length b.samples) i t.there,
    (
      not_above (length (points_of b i)) (front + back) t.inside,
      (no_cut (length (points_of b i)) front back (loop_of b i) t.outside, tt),
    ),
  )

  pub within_trim : IsSound b → i < length b.samples → front + back ≤ length (points_of b i)
      → broken_limit (sample_trimmed b i front back) ≡ None
  within_trim sound lt inside =
      let (s, e) = slice_get-found b.samples i lt in
      within_trimmed b i front back s e (rw e at inside) sound

  pub sound_trim : IsSound b → Trims → IsSound (sample_trimmed b i front back)
  sound_trim sound t =
      let (s, e) = slice_get-found b.samples i t.there in
      trimmed_sound b i front back s e (rw e at t.inside) sound (rw e at t.outside)

-- ---- extend

module _ (b : Parts) (i : ℕ) (front back : List ℕ) where
  pub there_of_extend : refusal b (steps.Points i (Extend front back)) ≡ None → i < length b.samples
  there_of_extend h = below (length b.samples) i (accepted b (steps.Points i (Extend front back)) h).tests.0

  pub sound_extend : IsSound b → AreWords front → AreWords back
      → refusal b (steps.Points i (Extend front back)) ≡ None → IsSound (sample_extended b i front back)
  sound_extend sound f k h =
      let (s, e) = slice_get-found b.samples i (there_of_extend h) in
      extended_sound b i front back s e sound f k (accepted b (steps.Points i (Extend front back)) h).limits

-- ---- set-loop

module _ (b : Parts) (i : ℕ) (looped : Option (ℕ × ℕ)) where
  pub record Loops : Type 0 where
    pub there : i < length b.samples
    pub inside : IsLoop (length (points_of b i)) looped

  pub loops : NoneApplies (causes b (steps.Points i (SetLoop looped))) → Loops
  loops (there, (inside, end)) =
      record { there = below (length b.samples) i there; inside = loop_hits (length (points_of b i)) looped inside }

  pub tests_loop : Loops → NoneApplies (causes b (steps.Points i (SetLoop looped)))
  tests_loop l = (not_below (length b.samples) i l.there, (hit_loop (length (points_of b i)) looped l.inside, tt))

  pub sound_loop : IsSound b → Loops → IsSound (loop_set b i looped)
  sound_loop sound l =
      let (s, e) = slice_get-found b.samples i l.there in
      let v = there_valid b i s e sound in
      let g = there_fits b i s e sound in
      let inside : IsLoop (length s.points) looped = rw e at l.inside in
      let all = among b.samples i s e in
      let few = sound.valid.limits.points in
      changed_sound b i (with_loop looped) s e sound
      (record { name = v.name; looped = inside; kind = v.kind })
      (record {
        name =
            g.name;
        points =
            g.points;
        looped =
            loop_fits (length s.points) looped (omega (arith, all, few)) inside;
        rate =
            g.rate;
        key = g.key;
        correction = g.correction;
        kind = g.kind;
      })
      (within_change b i (with_loop looped) sound l.there (λ s. refl))

-- ---- set-kind

module _ (b : Parts) (i : ℕ) (kind : Kind) where
  pub record Links : Type 0 where
    pub there : i < length b.samples
    pub link : IsLink (length b.samples) kind

  pub links : NoneApplies (causes b (steps.Points i (SetKind kind))) → Links
  links (there, (link, end)) =
      record { there = below (length b.samples) i there; link = link_hits (length b.samples) kind link }

  pub tests_kind : Links → NoneApplies (causes b (steps.Points i (SetKind kind)))
  tests_kind l = (not_below (length b.samples) i l.there, (hit_link (length b.samples) kind l.link, tt))

  pub sound_kind : IsSound b → Links → IsSound (kind_set b i kind)
  sound_kind sound l =
      let (s, e) = slice_get-found b.samples i l.there in
      let v = there_valid b i s e sound in
      let g = there_fits b i s e sound in
      let few = sound.valid.limits.samples in
      let fits : FitsKind kind =
      link_weaker (λ x. x < length b.samples) (λ x. x < 2 ^ 16) (λ x h. omega (arith, h, few)) kind l.link in
      changed_sound b i (with_kind kind) s e sound
      (record { name = v.name; looped = v.looped; kind = l.link })
      (record {
        name =
            g.name;
        points =
            g.points;
        looped = g.looped;
        rate = g.rate;
        key = g.key;
        correction = g.correction;
        kind = fits;
      })
      (within_change b i (with_kind kind) sound l.there (λ s. refl))

-- ---- set-tune

module _ (b : Parts) (i rate key : ℕ) (correction : ℤ) where
  pub there_of_tune : refusal b (steps.Points i (SetTune rate key correction)) ≡ None → i < length b.samples
  there_of_tune h = below (length b.samples) i (accepted b (steps.Points i (SetTune rate key correction)) h).tests.0

  -- set-tune is accepted for every existing sample
  pub tune_is_accepted : IsSound b → (no_such_sample b i).applies ≡ false
      → refusal b (steps.Points i (SetTune rate key correction)) ≡ None
  tune_is_accepted sound there =
      by_limit b (steps.Points i (SetTune rate key correction)) None (Ok tt) (there, tt)
      (within_change b i (with_tune rate key correction) sound (below (length b.samples) i there) (λ s. refl)) refl

  pub sound_tune : IsSound b → (rate < 2 ^ 32) → (key < 2 ^ 8) → FitsSigned w8 correction → i < length b.samples
      → IsSound (tune_set b i rate key correction)
  sound_tune sound r k c lt =
      let (s, e) = slice_get-found b.samples i lt in
      let v = there_valid b i s e sound in
      let g = there_fits b i s e sound in
      changed_sound b i (with_tune rate key correction) s e sound
      (record { name = v.name; looped = v.looped; kind = v.kind })
      (record { name = g.name; points = g.points; looped = g.looped; rate = r; key = k; correction = c; kind = g.kind })
      (within_change b i (with_tune rate key correction) sound lt (λ s. refl))

-- ---- the order of their causes

pub points_rises : (b : Parts) (i : ℕ) (s : PointStep) → rises 22 (points.causes b i s) ≡ true
points_rises b i (Trim front back) = refl
points_rises b i (Extend front back) = refl
points_rises b i (SetLoop looped) = refl
points_rises b i (SetKind kind) = refl
points_rises b i (SetTune rate key correction) = refl
