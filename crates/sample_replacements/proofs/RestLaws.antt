-- What a replacement leaves as it is.
use Rattle.std.proofs.Common.{◌≡◌, ℕ, List, [], ◌∷◌, slice_get, Option, Some, None, Result, Ok, Err, refl, ap, ◌∙◌}
use Rattle.std.specs.Prelude.{unwrap_or}
use Rattle.std.specs.Option.{option_map}
use Rattle.base_numbered_lists.proofs.Lists.{length-changed}
use Rattle.bank_parts.specs.declared.parts.Sample.{Sample}
use Rattle.bank_parts.specs.declared.parts.Parts.{Parts}
use Rattle.bank_parts.proofs.SettingLaws.{changed_unseen}
use Rattle.edit_refusals.specs.Sequences.{after_all}
use Rattle.wave_file.specs.declared.recording.Pitch.{Pitch}
use Rattle.wave_file.specs.declared.recording.Sampler.{Sampler}
use Rattle.wave_file.specs.Recordings.{own_pitch}
use Rattle.sample_replacements.specs.declared.fault.ReplaceFault.{ReplaceFault}
use Rattle.sample_replacements.specs.Replacements.{Target, targets, with_content, target_replaced, all_replaced}
use Rattle.sample_replacements.specs.Replacements.{replaced}
use Rattle.sample_replacements.specs.Laws.{KeepsRest, RestStays, PitchesStay}

module _ (rate : ℕ) (sampler : Sampler) where
  rest_kept : (b : Parts) (ts : List Target) → KeepsRest b (after_all (target_replaced rate sampler) b ts)
  rest_kept b [] =
      record { presets = refl; instruments = refl; count = refl; names = λ i. refl; kinds = λ i. refl }
  rest_kept b (t ∷ ts) =
      let later = rest_kept (target_replaced rate sampler b t) ts in
      let f = with_content rate sampler t.points in
      record {
        presets = later.presets;
        instruments = later.instruments;
        count = later.count ∙ length-changed b.samples t.sample f;
        names = λ i.
            later.names i
            ∙ changed_unseen (option_map (λ (s : Sample). s.name)) b.samples t.sample i f (λ x. refl);
        kinds = λ i.
            later.kinds i
            ∙ changed_unseen (option_map (λ (s : Sample). s.kind)) b.samples t.sample i f (λ x. refl);
      }

  rest_of : (b : Parts) (ts : Result (List Target) ReplaceFault) → KeepsRest b (all_replaced b rate sampler ts)
  rest_of b (Ok ts) = rest_kept b ts
  rest_of b (Err fault) = rest_kept b []

  -- ---- without a pitch

  abbrev KeepPitches : Parts → Parts → Type 0
  KeepPitches b c =
      (i : ℕ) → option_map own_pitch (slice_get c.samples i) ≡ option_map own_pitch (slice_get b.samples i)

  pitches_kept : sampler.pitch ≡ None → (b : Parts) (ts : List Target)
      → KeepPitches b (after_all (target_replaced rate sampler) b ts)
  pitches_kept none b [] i = refl
  pitches_kept none b (t ∷ ts) i =
      pitches_kept none (target_replaced rate sampler b t) ts i
      ∙ changed_unseen (option_map own_pitch) b.samples t.sample i (with_content rate sampler t.points)
      (λ x. ap (λ (p : Option Pitch). Some (unwrap_or p (own_pitch x))) none)

  pitches_of : sampler.pitch ≡ None → (b : Parts) (ts : Result (List Target) ReplaceFault)
      → KeepPitches b (all_replaced b rate sampler ts)
  pitches_of none b (Ok ts) = pitches_kept none b ts
  pitches_of none b (Err fault) = pitches_kept none b []

pub rest_stays : RestStays
unfolding replaced
rest_stays b n r = rest_of r.rate r.sampler b (targets b.samples n r.channels)

pub pitches_stay : PitchesStay
unfolding replaced
pitches_stay b n r none = pitches_of r.rate r.sampler none b (targets b.samples n r.channels)
