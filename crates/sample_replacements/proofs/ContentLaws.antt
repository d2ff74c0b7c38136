-- The edits of a replacement, one after the other, replace the content of a sample.
use Rattle.std.proofs.Common.{◌≡◌, ◌-◌, ◌++◌, ℕ, zero, suc, List, [], ◌∷◌, length, slice_get, slice_set, slice_range}
use Rattle.std.proofs.Common.{Some, None, refl, sym, ◌∙◌, ap, arith}
use Rattle.std.specs.Prelude.{unwrap_or}
use Rattle.base_numbered_lists.specs.Moved.{changed}
use Rattle.base_numbered_lists.proofs.Lists.{changed-found, slice_get-changed}
use Rattle.bank_parts.specs.declared.parts.Sample.{Sample}
use Rattle.bank_parts.specs.declared.parts.Parts.{Parts}
use Rattle.bank_changes.specs.Points.{points_of, sample_changed, trimmed, extended, with_loop, with_tune}
use Rattle.edit_refusals.specs.Edits.{raw}
use Rattle.edit_refusals.specs.Sequences.{after_all}
use Rattle.wave_file.specs.declared.recording.Pitch.{Pitch}
use Rattle.wave_file.specs.declared.recording.Sampler.{Sampler}
use Rattle.wave_file.specs.Recordings.{own_pitch}
use Rattle.sample_replacements.specs.Replacements.{content_edits, pitch_at, with_content}

-- ---- changes of one member of a list

slice_set-slice_set : {X : Type 0} (xs : List X) (i : ℕ) (x y : X)
    → slice_set (slice_set xs i x) i y ≡ slice_set xs i y
slice_set-slice_set [] i x y = refl
slice_set-slice_set (z ∷ zs) zero x y = refl
slice_set-slice_set (z ∷ zs) (suc i) x y = ap (λ ws. z ∷ ws) (slice_set-slice_set zs i x y)

-- two changes of the same member
changed-changed : {X : Type 0} (xs : List X) (i : ℕ) (f g : X → X)
    → changed (changed xs i f) i g ≡ changed xs i (λ x. g (f x))
changed-changed xs i f g =
    (elim (slice_get xs i) as (λ o. slice_get xs i ≡ o → changed (changed xs i f) i g ≡ changed xs i (λ x. g (f x))) [
      | None ↦ λ e. rw e (rw e refl)
      | Some x ↦ λ e.
          changed-found (changed xs i f) i g (f x) (slice_get-changed xs i f x e)
          ∙ (ap (λ ys. slice_set ys i (g (f x))) (changed-found xs i f x e)
          ∙ (slice_set-slice_set xs i (f x) (g (f x)) ∙ sym (changed-found xs i (λ y. g (f y)) x e)))
    ]) refl

module _ {X : Type 0} where
  -- the list with the member at index i changed by each function in turn
  abbrev all_changed : List X → ℕ → List (X → X) → List X
  all_changed xs i [] = xs
  all_changed xs i (f ∷ fs) = all_changed (changed xs i f) i fs

  abbrev composed : List (X → X) → X → X
  composed [] x = x
  composed (f ∷ fs) x = composed fs (f x)

  changed_once : (xs : List X) (i : ℕ) (f : X → X) (fs : List (X → X))
      → all_changed xs i (f ∷ fs) ≡ changed xs i (composed (f ∷ fs))
  changed_once xs i f [] = refl
  changed_once xs i f (g ∷ gs) =
      ap (λ ys. all_changed ys i gs) (changed-changed xs i f g) ∙ changed_once xs i (λ x. g (f x)) gs

-- two changes that do the same to that member
changed-alike : {X : Type 0} (xs : List X) (i : ℕ) (f g : X → X) → ((x : X) → slice_get xs i ≡ Some x → f x ≡ g x)
    → changed xs i f ≡ changed xs i g
changed-alike xs i f g same =
    (elim (slice_get xs i) as (λ o. slice_get xs i ≡ o → changed xs i f ≡ changed xs i g) [
      | None ↦ λ e. rw e refl
      | Some x ↦ λ e.
          changed-found xs i f x e ∙ (ap (slice_set xs i) (same x e) ∙ sym (changed-found xs i g x e))
    ]) refl

-- ---- the content of a sample

-- all points removed
all_gone : (points : List ℕ) (n : ℕ) → n ≡ length points → slice_range points n (length points - 0) ≡ []
all_gone points n e = let none : length points - 0 - n ≡ 0 = omega (arith, e) in rw none refl

module _ (rate : ℕ) (sampler : Sampler) (points : List ℕ) where
  abbrev tuned : Pitch → Sample → Sample
  tuned pitch = with_tune rate pitch.key pitch.correction

  -- the changes of a sample by the edits of a replacement, after the first
  abbrev later_changes : ℕ → Pitch → List (Sample → Sample)
  later_changes count own =
      trimmed count 0 ∷ extended [] points ∷ with_loop sampler.looped ∷ tuned (unwrap_or sampler.pitch own) ∷ []

  abbrev changes : ℕ → Pitch → List (Sample → Sample)
  changes count own = with_loop None ∷ later_changes count own

  -- a sample with so many points and this pitch after them
  changes_replace : (count : ℕ) (own : Pitch) (s : Sample) → count ≡ length s.points → own ≡ own_pitch s
      → composed (changes count own) s ≡ with_content rate sampler points s
  changes_replace count own s e p =
      ap (λ (q : Pitch). composed (changes count q) s) p
      ∙ ap (λ (old : List ℕ). with_content rate sampler (old ++ points) s) (all_gone s.points count e)

  -- the edits replace the content of a sample with so many points and this pitch
  pub content_replaced : (b : Parts) (n count : ℕ) (own : Pitch) → count ≡ length (points_of b n) → own ≡ pitch_at b n
      → after_all raw b (content_edits n count own rate sampler points)
      ≡ sample_changed b n (with_content rate sampler points)
  content_replaced b n count own counted pitched =
      ap (λ (samples : List Sample). (let c : Parts = record b { samples = samples } in c))
      (changed_once b.samples n (with_loop None) (later_changes count own)
      ∙ changed-alike b.samples n (composed (changes count own)) (with_content rate sampler points)
      (λ s e. changes_replace count own s (rw e at counted) (rw e at pitched)))
