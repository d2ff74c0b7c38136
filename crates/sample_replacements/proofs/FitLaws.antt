-- The edits of a replacement are in range.
use Rattle.std.proofs.Common.{◌≡◌, ◌≤◌, ◌<◌, ◌^◌, ℕ, List, [], ◌∷◌, length, slice_get, Option, Some, None, Bool, true, false}
use Rattle.std.proofs.Common.{Result, Ok, Err, refl, subst, arith, nat_lt, if◌then◌else◌}
use Rattle.std.specs.List.{AllByRecursion, flat_map}
use Rattle.std.specs.Option.{option_and_then, option_map_or}
use Rattle.sf_base.specs.declared.limits.TheConstants.{SAMPLES}
use Rattle.sample_view.specs.Words.{AreWords}
use Rattle.base_numbered_lists.proofs.Lists.{slice_get-within}
use Rattle.bank_parts.specs.declared.parts.Kind.{Kind}
use Rattle.bank_parts.specs.declared.parts.Kind.TheVariants.{Mono, Right, Left, Linked}
use Rattle.bank_parts.specs.declared.parts.Sample.{Sample}
use Rattle.bank_parts.specs.declared.parts.Parts.{Parts}
use Rattle.bank_parts.specs.Valid.{IsValid}
use Rattle.bank_parts.specs.Fits.{Fits, FitsSample}
use Rattle.bank_parts.specs.Sound.{IsSound}
use Rattle.bank_parts.proofs.ListLaws.{everywhere-found}
use Rattle.bank_changes.specs.Points.{points_of}
use Rattle.bank_changes.proofs.PointLaws.{among}
use Rattle.bank_format.proofs.AllLaws.{all-append}
use Rattle.edit_forms.specs.declared.edit.Edit.{Edit}
use Rattle.edit_forms.specs.Fits.{FitsEdit}
use Rattle.wave_file.specs.declared.recording.Channels.{Channels}
use Rattle.wave_file.specs.declared.recording.Channels.TheVariants as recorded
use Rattle.wave_file.specs.declared.recording.Pitch.{Pitch}
use Rattle.wave_file.specs.declared.recording.Sampler.{Sampler}
use Rattle.wave_file.specs.declared.recording.Recording.{Recording}
use Rattle.wave_file.specs.Recordings.{default_pitch, own_pitch}
use Rattle.wave_file.proofs.FitLaws.{FitChannels, FitsPitch, FitsRecording, FitsSampler, default_fits, pitch_or_fits}
use Rattle.sample_replacements.specs.declared.fault.ReplaceFault.{ReplaceFault}
use Rattle.sample_replacements.specs.declared.fault.ReplaceFault.TheVariants.{NoSuchSample}
use Rattle.sample_replacements.specs.Pairs.{has_kind, is_left_of, is_right_of, pair_by_kind, pair_in}
use Rattle.sample_replacements.specs.Replacements.{Target, channel_targets, content_edits, edits_of, mono_targets}
use Rattle.sample_replacements.specs.Replacements.{pair_targets, pitch_at, replacement_edits, stereo_targets}
use Rattle.sample_replacements.specs.Replacements.{target_edits, targets}

-- ---- pairs

-- the number of a sample that is there
there : (test : Kind → Bool) (samples : List Sample) (i : ℕ) → has_kind test samples i ≡ true → i < length samples
there test samples i =
    (elim (slice_get samples i) as
    (λ o. slice_get samples i ≡ o → option_map_or (λ (s : Sample). test s.kind) o false ≡ true → i < length samples) [
      | None ↦ λ e h. absurd cc
      | Some s ↦ λ e h. slice_get-within samples i s e
    ]) refl

-- the numbers of both samples of a pair, if there is one
abbrev AreThere : List Sample → Option (ℕ × ℕ) → Type 0
AreThere samples None = Unit {0}
AreThere samples (Some pair) = (pair.0 < length samples) × (pair.1 < length samples)

pair_there : (samples : List Sample) (n : ℕ) (kind : Kind) → n < length samples → AreThere samples (pair_by_kind samples n kind)
pair_there samples n Mono lt = tt
pair_there samples n (Right link) lt = by_test (has_kind (is_left_of n) samples link) refl
  where
    by_test : (b : Bool) → has_kind (is_left_of n) samples link ≡ b
        → AreThere samples (if b then Some (link, n) else None)
    by_test true e = (there (is_left_of n) samples link e, lt)
    by_test false e = tt
pair_there samples n (Left link) lt = by_test (has_kind (is_right_of n) samples link) refl
  where
    by_test : (b : Bool) → has_kind (is_right_of n) samples link ≡ b
        → AreThere samples (if b then Some (n, link) else None)
    by_test true e = (lt, there (is_right_of n) samples link e)
    by_test false e = tt
pair_there samples n (Linked link) lt = tt

pairs_there : (samples : List Sample) (n : ℕ) → AreThere samples (pair_in samples n)
pairs_there samples n =
    (elim (slice_get samples n) as
    (λ o. slice_get samples n ≡ o
    → AreThere samples (option_and_then (λ (s : Sample). pair_by_kind samples n s.kind) o)) [
      | None ↦ λ e. tt
      | Some s ↦ λ e. pair_there samples n s.kind (slice_get-within samples n s e)
    ]) refl

-- ---- targets

record FitsTarget (t : Target) : Type 0 where
  sample : t.sample < 2 ^ 32
  points : AreWords t.points

pair_fits : (samples : List Sample) (pair : ℕ × ℕ) (left right : List ℕ) → length samples ≤ SAMPLES
    → AreThere samples (Some pair) → AreWords left → AreWords right
    → AllByRecursion FitsTarget (pair_targets pair left right)
pair_fits samples pair left right most lt l r = (
  record { sample = let a = lt.0 in omega (arith, a, most); points = l },
  (record { sample = let a = lt.1 in omega (arith, a, most); points = r }, tt),
)

mono_fits : (samples : List Sample) (n : ℕ) (points : List ℕ) (pair : Option (ℕ × ℕ)) → n < 2 ^ 32
    → length samples ≤ SAMPLES → AreThere samples pair → AreWords points
    → AllByRecursion FitsTarget (mono_targets n points pair)
mono_fits samples n points None small most lt p = (record { sample = small; points = p }, tt)
mono_fits samples n points (Some pair) small most lt p = pair_fits samples pair points points most lt p p

stereo_fits : (samples : List Sample) (left right : List ℕ) (pair : Option (ℕ × ℕ)) (ts : List Target)
    → length samples ≤ SAMPLES → AreThere samples pair → AreWords left → AreWords right
    → stereo_targets left right pair ≡ Ok ts → AllByRecursion FitsTarget ts
stereo_fits samples left right None ts most lt l r h = absurd cc
stereo_fits samples left right (Some pair) ts most lt l r h =
    let is : pair_targets pair left right ≡ ts = cc in
    subst (AllByRecursion FitsTarget) is (pair_fits samples pair left right most lt l r)

channels_fit : (samples : List Sample) (n : ℕ) (channels : Channels) (ts : List Target) → n < 2 ^ 32
    → length samples ≤ SAMPLES → FitChannels channels → channel_targets n (pair_in samples n) channels ≡ Ok ts
    → AllByRecursion FitsTarget ts
channels_fit samples n (recorded.Mono points) ts small most f h =
    let is : mono_targets n points (pair_in samples n) ≡ ts = cc in
    subst (AllByRecursion FitsTarget) is (mono_fits samples n points (pair_in samples n) small most (pairs_there samples n) f)
channels_fit samples n (recorded.MonoSamples points) ts small most f h =
    let is : mono_targets n points (pair_in samples n) ≡ ts = cc in
    subst (AllByRecursion FitsTarget) is (mono_fits samples n points (pair_in samples n) small most (pairs_there samples n) f)
channels_fit samples n (recorded.Stereo left right) ts small most f h =
    stereo_fits samples left right (pair_in samples n) ts most (pairs_there samples n) f.0 f.1 h

targets_fit : (samples : List Sample) (n : ℕ) (channels : Channels) (ts : List Target) → n < 2 ^ 32
    → length samples ≤ SAMPLES → FitChannels channels → targets samples n channels ≡ Ok ts
    → AllByRecursion FitsTarget ts
targets_fit samples n channels ts small most f = by_test (nat_lt n (length samples))
  where
    by_test : (b : Bool) → (if b then channel_targets n (pair_in samples n) channels else Err NoSuchSample) ≡ Ok ts
        → AllByRecursion FitsTarget ts
    by_test true h = channels_fit samples n channels ts small most f h
    by_test false h = absurd cc

-- ---- edits

count_fits : (b : Parts) (n : ℕ) → IsValid b → length (points_of b n) < 2 ^ 32
count_fits b n v =
    (elim (slice_get b.samples n) as
    (λ o. slice_get b.samples n ≡ o → length (option_map_or (λ (s : Sample). s.points) o []) < 2 ^ 32) [
      | None ↦ λ e. omega arith
      | Some s ↦ λ e. let some = among b.samples n s e in let most = v.limits.points in omega (arith, some, most)
    ]) refl

pitch_fits : (b : Parts) (n : ℕ) → Fits b → FitsPitch (pitch_at b n)
pitch_fits b n f =
    (elim (slice_get b.samples n) as
    (λ o. slice_get b.samples n ≡ o → FitsPitch (option_map_or own_pitch o default_pitch)) [
      | None ↦ λ e. default_fits
      | Some s ↦ λ e.
          let fits = everywhere-found FitsSample b.samples n s e f.samples in
          record { key = fits.key; correction = fits.correction }
    ]) refl

content_fits : (n count : ℕ) (own : Pitch) (rate : ℕ) (sampler : Sampler) (points : List ℕ) → n < 2 ^ 32
    → count < 2 ^ 32 → FitsPitch own → rate < 2 ^ 32 → FitsSampler sampler → AreWords points
    → AllByRecursion FitsEdit (content_edits n count own rate sampler points)
content_fits n count own rate sampler points small c o r s p =
    let pitch = pitch_or_fits sampler.pitch own s.pitch o in (
      (small, tt),
      (
        (small, (c, omega arith)),
        (
          (small, (tt, p)),
          (
            (small, s.looped),
            ((small, (r, pitch.key, pitch.correction)), tt),
          ),
        ),
      ),
    )

all_fit : (b : Parts) (rate : ℕ) (sampler : Sampler) (ts : List Target) → IsSound b → rate < 2 ^ 32
    → FitsSampler sampler → AllByRecursion FitsTarget ts
    → AllByRecursion FitsEdit (flat_map (target_edits b rate sampler) ts)
all_fit b rate sampler [] v r s h = tt
all_fit b rate sampler (t ∷ ts) v r s h =
    all-append FitsEdit (target_edits b rate sampler t) (flat_map (target_edits b rate sampler) ts)
    (content_fits t.sample (length (points_of b t.sample)) (pitch_at b t.sample) rate sampler t.points h.0.sample
    (count_fits b t.sample v.valid) (pitch_fits b t.sample v.fits) r s h.0.points)
    (all_fit b rate sampler ts v r s h.1)

pub replacements_fit : (b : Parts) (n : ℕ) (r : Recording) (edits : List Edit) → n < 2 ^ 32 → IsSound b
    → FitsRecording r → replacement_edits b n r ≡ Ok edits → AllByRecursion FitsEdit edits
unfolding replacement_edits
replacements_fit b n r edits small v f h = by_targets (targets b.samples n r.channels) refl h
  where
    by_targets : (result : Result (List Target) ReplaceFault) → targets b.samples n r.channels ≡ result
        → edits_of b r.rate r.sampler result ≡ Ok edits → AllByRecursion FitsEdit edits
    by_targets (Ok ts) e k =
        let is : flat_map (target_edits b r.rate r.sampler) ts ≡ edits = cc in
        subst (AllByRecursion FitsEdit) is
        (all_fit b r.rate r.sampler ts v f.rate f.sampler
        (targets_fit b.samples n r.channels ts small v.valid.limits.samples f.channels e))
    by_targets (Err fault) e k = absurd cc
