-- The edits that put a recording in the place of a sample, and the bank after them.
use Rattle.std.specs.Prelude.{◌≡◌, ◌≤◌, ℕ, List, [], ◌∷◌, length, nat_lt, if◌then◌else◌, Option, Some, None}
use Rattle.std.specs.Prelude.{slice_get, unwrap_or, Result, Ok, Err, IsOk}
use Rattle.std.specs.List.{flat_map}
use Rattle.std.specs.Option.{option_map_or}
use Rattle.bank_parts.specs.declared.parts.Sample.{Sample}
use Rattle.bank_parts.specs.declared.parts.Parts.{Parts}
use Rattle.bank_changes.specs.Points.{points_of, sample_changed}
use Rattle.edit_forms.specs.declared.points.PointStep.{PointStep}
use Rattle.edit_forms.specs.declared.points.PointStep.TheVariants.{Trim, Extend, SetLoop, SetTune}
use Rattle.edit_forms.specs.declared.step.Step.TheVariants as steps
use Rattle.edit_forms.specs.declared.edit.Edit.{Edit}
use Rattle.edit_forms.specs.declared.edit.Edit.TheVariants.{One}
use Rattle.edit_refusals.specs.Sequences.{after_all}
use Rattle.wave_file.specs.declared.recording.Channels.{Channels}
use Rattle.wave_file.specs.declared.recording.Channels.TheVariants.{Mono, MonoSamples, Stereo}
use Rattle.wave_file.specs.declared.recording.Pitch.{Pitch}
use Rattle.wave_file.specs.declared.recording.Sampler.{Sampler}
use Rattle.wave_file.specs.declared.recording.Recording.{Recording}
use Rattle.wave_file.specs.Recordings.{default_pitch, own_pitch}
use Rattle.sample_replacements.specs.declared.fault.ReplaceFault.{ReplaceFault}
use Rattle.sample_replacements.specs.declared.fault.ReplaceFault.TheVariants.{NoSuchSample, TwoChannels, OutOfMemory}
use Rattle.sample_replacements.specs.Pairs.{pair_in}

-- ---- the samples that are replaced

-- a sample and its new points
pub record Target : Type 0 where
  pub sample : ℕ
  pub points : List ℕ

abbrev pub target : ℕ → List ℕ → Target
target n points = record { sample = n; points = points }

-- both samples of a pair, the left one first
abbrev pub pair_targets : ℕ × ℕ → List ℕ → List ℕ → List Target
pair_targets pair left right = target pair.0 left ∷ target pair.1 right ∷ []

-- by a mono recording: both samples of the pair of which sample n is one, or sample n alone
abbrev pub mono_targets : ℕ → List ℕ → Option (ℕ × ℕ) → List Target
mono_targets n points None = target n points ∷ []
mono_targets n points (Some pair) = pair_targets pair points points

-- by a stereo recording: both samples of a pair
abbrev pub stereo_targets : List ℕ → List ℕ → Option (ℕ × ℕ) → Result (List Target) ReplaceFault
stereo_targets left right None = Err TwoChannels
stereo_targets left right (Some pair) = Ok (pair_targets pair left right)

abbrev pub channel_targets : ℕ → Option (ℕ × ℕ) → Channels → Result (List Target) ReplaceFault
channel_targets n pair (Mono points) = Ok (mono_targets n points pair)
channel_targets n pair (MonoSamples points) = Ok (mono_targets n points pair)
channel_targets n pair (Stereo left right) = stereo_targets left right pair

-- the samples that a recording replaces if it is put in the place of sample n, or why it can't be
abbrev pub targets : List Sample → ℕ → Channels → Result (List Target) ReplaceFault
targets samples n channels =
    if nat_lt n (length samples) then channel_targets n (pair_in samples n) channels else Err NoSuchSample

-- ---- the edits

abbrev pub point_edit : ℕ → PointStep → Edit
point_edit n step = One (steps.Points n step)

abbrev pub tune_edit : ℕ → ℕ → Pitch → Edit
tune_edit n rate pitch = point_edit n (SetTune rate pitch.key pitch.correction)

-- The edits that replace the content of sample n, which has `count` points and this pitch of its own. All points can be
-- removed only once there is no loop.
abbrev pub content_edits : ℕ → ℕ → Pitch → ℕ → Sampler → List ℕ → List Edit
content_edits n count own rate sampler points =
    point_edit n (SetLoop None) ∷ point_edit n (Trim count 0) ∷ point_edit n (Extend [] points)
    ∷ point_edit n (SetLoop sampler.looped) ∷ tune_edit n rate (unwrap_or sampler.pitch own) ∷ []

-- the pitch of sample n; that of new samples if there is no such sample
abbrev pub pitch_at : Parts → ℕ → Pitch
pitch_at b n = option_map_or own_pitch (slice_get b.samples n) default_pitch

abbrev pub target_edits : Parts → ℕ → Sampler → Target → List Edit
target_edits b rate sampler t =
    content_edits t.sample (length (points_of b t.sample)) (pitch_at b t.sample) rate sampler t.points

abbrev pub edits_of : Parts → ℕ → Sampler → Result (List Target) ReplaceFault → Result (List Edit) ReplaceFault
edits_of b rate sampler (Ok ts) = Ok (flat_map (target_edits b rate sampler) ts)
edits_of b rate sampler (Err fault) = Err fault

-- the edits that put a recording in the place of sample n, or why it can't be
unfoldable pub replacement_edits : Parts → ℕ → Recording → Result (List Edit) ReplaceFault
replacement_edits b n r = edits_of b r.rate r.sampler (targets b.samples n r.channels)

-- ---- the bank after them

-- a sample with these points, and with the rate, the loop and the pitch of a recording; without a pitch it keeps its own
abbrev pub with_content : ℕ → Sampler → List ℕ → Sample → Sample
with_content rate sampler points s = record s {
  points = points;
  looped = sampler.looped;
  rate = rate;
  key = (unwrap_or sampler.pitch (own_pitch s)).key;
  correction = (unwrap_or sampler.pitch (own_pitch s)).correction;
}

abbrev pub target_replaced : ℕ → Sampler → Parts → Target → Parts
target_replaced rate sampler b t = sample_changed b t.sample (with_content rate sampler t.points)

abbrev pub all_replaced : Parts → ℕ → Sampler → Result (List Target) ReplaceFault → Parts
all_replaced b rate sampler (Ok ts) = after_all (target_replaced rate sampler) b ts
all_replaced b rate sampler (Err fault) = b

-- the bank with a recording in the place of sample n; nothing else changes
unfoldable pub replaced : Parts → ℕ → Recording → Parts
replaced b n r = all_replaced b r.rate r.sampler (targets b.samples n r.channels)

-- ---- the result

-- the most edits of a replacement
abbrev pub most_edits : ℕ
most_edits = 10

-- these are the edits
pub record AreReplacement (due : Result (List Edit) ReplaceFault) (edits : List Edit) : Type 0 where
  pub value : due ≡ Ok edits
  pub few : length edits ≤ most_edits

-- the fault, or `OutOfMemory` where there are edits
abbrev pub IsReplaceFault : Result (List Edit) ReplaceFault → ReplaceFault → Type 0
IsReplaceFault due NoSuchSample = due ≡ Err NoSuchSample
IsReplaceFault due TwoChannels = due ≡ Err TwoChannels
IsReplaceFault due OutOfMemory = IsOk due
