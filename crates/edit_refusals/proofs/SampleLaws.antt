-- The forms that edit samples: when each is accepted.
use Rattle.std.proofs.Common.{◌≡◌, ◌<◌, ◌≤◌, ◌+◌, ℕ, nat_le, nat_lt, false, List, length, Option, Some, None, refl}
use Rattle.std.proofs.Common.{◌∙◌, ap, true}
use Rattle.bank_parts.specs.declared.parts.Kind.{Kind}
use Rattle.bank_parts.specs.declared.parts.Kind.TheVariants.{Mono, Right, Left, Linked}
use Rattle.bank_parts.specs.declared.parts.Sample.{Sample}
use Rattle.bank_parts.specs.declared.parts.Parts.{Parts}
use Rattle.bank_parts.specs.Valid.{IsLoop, IsLink, IsValid}
use Rattle.bank_parts.specs.Fits.{FitsSample}
use Rattle.bank_parts.specs.Sound.{IsSound}
use Rattle.bank_validity.specs.Limits.{totals_of, broken, broken_limit, with_sample}
use Rattle.bank_validity.proofs.LimitLaws.{no_limit_of}
use Rattle.bank_changes.specs.Samples.{sample_in_use, sample_renamed, sample_added, sample_removed, sample_moved}
use Rattle.bank_changes.proofs.Everywhere.{or_left, or_right, or_none}
use Rattle.bank_changes.proofs.SampleLaws.{totals-renamed, totals-added, totals-moved, added_sound, removed_sound}
use Rattle.bank_changes.proofs.SampleLaws.{moved_sound}
use Rattle.edit_forms.specs.declared.samples.SampleStep.TheVariants.{RenameSample, AddSample, RemoveSample, MoveSample}
use Rattle.edit_forms.specs.declared.step.Step.TheVariants as steps
use Rattle.edit_forms.specs.declared.cause.Cause.TheVariants.{NoSuchSample}
use Rattle.edit_forms.specs.Causes.{link_misses, loop_misses}
use Rattle.edit_forms.specs.Steps.{refusal, causes}
use Rattle.edit_refusals.proofs.Accepted.{NoneApplies, accepted, below, not_below, up_to, not_above}
use Rattle.edit_refusals.proofs.Moves.{Moves, moves}
use Rattle.edit_forms.specs.declared.samples.SampleStep.{SampleStep}
use Rattle.edit_forms.specs.Samples as samples
use Rattle.edit_refusals.proofs.Rises.{rises}

-- ---- the tests of contents

pub link_hits : (n : ℕ) (k : Kind) → link_misses n k ≡ false → IsLink n k
link_hits n Mono h = tt
link_hits n (Right x) h = below n x h
link_hits n (Left x) h = below n x h
link_hits n (Linked x) h = below n x h

pub hit_link : (n : ℕ) (k : Kind) → IsLink n k → link_misses n k ≡ false
hit_link n Mono h = refl
hit_link n (Right x) h = not_below n x h
hit_link n (Left x) h = not_below n x h
hit_link n (Linked x) h = not_below n x h

pub loop_hits : (n : ℕ) (l : Option (ℕ × ℕ)) → loop_misses n l ≡ false → IsLoop n l
loop_hits n None h = tt
loop_hits n (Some l) h = (
  below l.1 l.0 (or_left (nat_le l.1 l.0) (nat_lt n l.1) h),
  up_to n l.1 (or_right (nat_le l.1 l.0) (nat_lt n l.1) h),
)

pub hit_loop : (n : ℕ) (l : Option (ℕ × ℕ)) → IsLoop n l → loop_misses n l ≡ false
hit_loop n None h = refl
hit_loop n (Some l) h = or_none (nat_le l.1 l.0) (nat_lt n l.1) (not_below l.1 l.0 h.0) (not_above n l.1 h.1)

-- ---- rename-sample

module _ (b : Parts) (i : ℕ) (name : List ℕ) where
  pub there_of_rename : refusal b (steps.Sample (RenameSample i name)) ≡ None → i < length b.samples
  there_of_rename h = below (length b.samples) i (accepted b (steps.Sample (RenameSample i name)) h).tests.0

  pub within_rename : IsValid b → broken_limit (sample_renamed b i name) ≡ None
  within_rename v = ap broken (totals-renamed b i name) ∙ no_limit_of b v.limits

-- ---- add-sample

module _ (b : Parts) (i : ℕ) (s : Sample) where
  pub record AddSampleAllowed : Type 0 where
    pub link : IsLink (length b.samples + 1) s.kind
    pub place : i ≤ length b.samples
    pub looped : IsLoop (length s.points) s.looped

  pub add_sample_allowed : NoneApplies (causes b (steps.Sample (AddSample i s))) → AddSampleAllowed
  add_sample_allowed (link, (place, (looped, end))) =
      record {
        link =
            link_hits (length b.samples + 1) s.kind link;
        place =
            up_to (length b.samples) i place;
        looped = loop_hits (length s.points) s.looped looped;
      }

  pub tests_add : AddSampleAllowed → NoneApplies (causes b (steps.Sample (AddSample i s)))
  tests_add g = (
    hit_link (length b.samples + 1) s.kind g.link,
    (not_above (length b.samples) i g.place, (hit_loop (length s.points) s.looped g.looped, tt)),
  )

  pub sound_add : IsSound b → FitsSample s → refusal b (steps.Sample (AddSample i s)) ≡ None
      → IsSound (sample_added b i s)
  sound_add sound fits h =
      let a = accepted b (steps.Sample (AddSample i s)) h in
      let g = add_sample_allowed a.tests in
      added_sound b i s sound g.place (record { name = fits.name; looped = g.looped; kind = g.link }) fits a.limits

  -- the broken limit, computed from totals
  pub limit_add : i ≤ length b.samples
      → broken_limit (sample_added b i s) ≡ broken (with_sample (totals_of b) (length s.points))
  limit_add le = ap broken (totals-added b i s le)

-- ---- remove-sample

module _ (b : Parts) (i : ℕ) where
  pub record RemoveSampleAllowed : Type 0 where
    pub there : i < length b.samples
    pub free : sample_in_use b i ≡ false

  pub remove_sample_allowed : NoneApplies (causes b (steps.Sample (RemoveSample i))) → RemoveSampleAllowed
  remove_sample_allowed (there, (free, end)) = record { there = below (length b.samples) i there; free = free }

  pub sound_remove : IsSound b → refusal b (steps.Sample (RemoveSample i)) ≡ None → IsSound (sample_removed b i)
  sound_remove sound h =
      let c = remove_sample_allowed (accepted b (steps.Sample (RemoveSample i)) h).tests in
      removed_sound b i sound c.there c.free

  pub within_remove : IsSound b → i < length b.samples → sample_in_use b i ≡ false
      → broken_limit (sample_removed b i) ≡ None
  within_remove sound lt free = no_limit_of (sample_removed b i) (removed_sound b i sound lt free).valid.limits

-- ---- move-sample

module _ (b : Parts) (i j : ℕ) where
  pub moves_sample : refusal b (steps.Sample (MoveSample i j)) ≡ None → Moves (length b.samples) i j
  moves_sample h = moves (length b.samples) i j NoSuchSample (accepted b (steps.Sample (MoveSample i j)) h).tests

  pub sound_move_sample : IsSound b → refusal b (steps.Sample (MoveSample i j)) ≡ None → IsSound (sample_moved b i j)
  sound_move_sample sound h = let m = moves_sample h in moved_sound b i j m.there m.place sound

  pub within_move_sample : IsValid b → i < length b.samples → j < length b.samples
      → broken_limit (sample_moved b i j) ≡ None
  within_move_sample v lt lu = ap broken (totals-moved b i j lt lu) ∙ no_limit_of b v.limits

-- ---- the order of their causes

pub sample_rises : (b : Parts) (s : SampleStep) → rises 0 (samples.causes b s) ≡ true
sample_rises b (RenameSample sample name) = refl
sample_rises b (AddSample at sample) = refl
sample_rises b (RemoveSample sample) = refl
sample_rises b (MoveSample from to) = refl
