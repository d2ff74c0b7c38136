-- The edits of a replacement lead to the bank with the recording in the place of the sample.
use Rattle.std.proofs.Common.{◌≡◌, ◌≢◌, ℕ, List, [], length, slice_get, Option, Some, None, Bool, true, false}
use Rattle.std.proofs.Common.{Result, Ok, Err, refl, sym, ◌∙◌, ap, nat_lt, if◌then◌else◌}
use Rattle.std.specs.List.{flat_map}
use Rattle.std.specs.Option.{option_map_or}
use Rattle.bank_parts.specs.declared.parts.Sample.{Sample}
use Rattle.bank_parts.specs.declared.parts.Parts.{Parts}
use Rattle.bank_parts.proofs.SettingLaws.{changed_elsewhere}
use Rattle.bank_changes.specs.Points.{points_of, sample_changed}
use Rattle.edit_forms.specs.declared.edit.Edit.{Edit}
use Rattle.edit_refusals.specs.Edits.{raw}
use Rattle.edit_refusals.specs.Sequences.{after_all}
use Rattle.wave_file.specs.declared.recording.Channels.{Channels}
use Rattle.wave_file.specs.declared.recording.Channels.TheVariants.{Mono, MonoSamples, Stereo}
use Rattle.wave_file.specs.declared.recording.Pitch.{Pitch}
use Rattle.wave_file.specs.declared.recording.Sampler.{Sampler}
use Rattle.wave_file.specs.Recordings.{default_pitch, own_pitch}
use Rattle.sample_replacements.specs.declared.fault.ReplaceFault.{ReplaceFault}
use Rattle.sample_replacements.specs.declared.fault.ReplaceFault.TheVariants.{NoSuchSample}
use Rattle.sample_replacements.specs.Pairs.{pair_in}
use Rattle.sample_replacements.specs.Replacements.{Target, pair_targets, mono_targets, stereo_targets, channel_targets}
use Rattle.sample_replacements.specs.Replacements.{targets, content_edits, target_edits, edits_of, replacement_edits}
use Rattle.sample_replacements.specs.Replacements.{pitch_at, with_content, target_replaced, all_replaced, replaced}
use Rattle.sample_replacements.specs.Laws.{ReplacingKeeps}
use Rattle.sample_replacements.proofs.PairLaws.{sides_differ}
use Rattle.sample_replacements.proofs.ContentLaws.{content_replaced}

module _ (b : Parts) (rate : ℕ) (sampler : Sampler) where
  abbrev edits : List Target → List Edit
  edits ts = flat_map (target_edits b rate sampler) ts

  abbrev IsReached : List Target → Type 0
  IsReached ts = after_all raw b (edits ts) ≡ after_all (target_replaced rate sampler) b ts

  -- the bank with the content of one sample replaced
  abbrev one_replaced : ℕ → List ℕ → Parts
  one_replaced n points = sample_changed b n (with_content rate sampler points)

  pair_reached : (p : ℕ × ℕ) (left right : List ℕ) → p.0 ≢ p.1 → IsReached (pair_targets p left right)
  pair_reached p left right differ =
      let count : ℕ = length (points_of b p.1) in
      let own : Pitch = pitch_at b p.1 in
      let stays : slice_get b.samples p.1 ≡ slice_get (one_replaced p.0 left).samples p.1 =
      sym (changed_elsewhere b.samples p.0 p.1 (with_content rate sampler left) (λ e. differ (sym e))) in
      let counted : count ≡ length (points_of (one_replaced p.0 left) p.1) =
      ap (λ o. length (option_map_or (λ (s : Sample). s.points) o [])) stays in
      let pitched : own ≡ pitch_at (one_replaced p.0 left) p.1 =
      ap (λ o. option_map_or own_pitch o default_pitch) stays in
      ap (λ (c : Parts). after_all raw c (content_edits p.1 count own rate sampler right))
      (content_replaced rate sampler left b p.0 (length (points_of b p.0)) (pitch_at b p.0) refl refl)
      ∙ content_replaced rate sampler right (one_replaced p.0 left) p.1 count own counted pitched

  mono_reached : (n : ℕ) (points : List ℕ) (pair : Option (ℕ × ℕ)) → ((p : ℕ × ℕ) → pair ≡ Some p → p.0 ≢ p.1)
      → IsReached (mono_targets n points pair)
  mono_reached n points None differ =
      content_replaced rate sampler points b n (length (points_of b n)) (pitch_at b n) refl refl
  mono_reached n points (Some p) differ = pair_reached p points points (differ p refl)

  -- where there are edits
  abbrev IfReached : Result (List Target) ReplaceFault → Type 0
  IfReached ts = (es : List Edit) → edits_of b rate sampler ts ≡ Ok es
      → after_all raw b es ≡ all_replaced b rate sampler ts

  reached_ok : (ts : List Target) → IsReached ts → IfReached (Ok ts)
  reached_ok ts reached es h = let same : edits ts ≡ es = cc in rw (sym same) reached

  stereo_reached : (left right : List ℕ) (pair : Option (ℕ × ℕ)) → ((p : ℕ × ℕ) → pair ≡ Some p → p.0 ≢ p.1)
      → IfReached (stereo_targets left right pair)
  stereo_reached left right None differ es h = cc
  stereo_reached left right (Some p) differ es h =
      reached_ok (pair_targets p left right) (pair_reached p left right (differ p refl)) es h

  channels_reached : (n : ℕ) (pair : Option (ℕ × ℕ)) (channels : Channels)
      → ((p : ℕ × ℕ) → pair ≡ Some p → p.0 ≢ p.1) → IfReached (channel_targets n pair channels)
  channels_reached n pair (Mono points) differ =
      reached_ok (mono_targets n points pair) (mono_reached n points pair differ)
  channels_reached n pair (MonoSamples points) differ =
      reached_ok (mono_targets n points pair) (mono_reached n points pair differ)
  channels_reached n pair (Stereo left right) differ = stereo_reached left right pair differ

  targets_reached : (n : ℕ) (channels : Channels) → IfReached (targets b.samples n channels)
  targets_reached n channels =
      elim (nat_lt n (length b.samples)) as
      (λ (t : Bool). IfReached (if t then channel_targets n (pair_in b.samples n) channels else Err NoSuchSample)) [
        | true ↦ channels_reached n (pair_in b.samples n) channels (sides_differ b.samples n)
        | false ↦ λ es h. cc
      ]

pub replacing_kept : ReplacingKeeps
unfolding replacement_edits replaced
replacing_kept b n r es h = targets_reached b r.rate r.sampler n r.channels es h
