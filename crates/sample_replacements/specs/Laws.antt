-- What the edits of a replacement make of a bank.
use Rattle.std.specs.Prelude.{◌≡◌, ℕ, List, length, None, Ok, slice_get}
use Rattle.std.specs.Option.{option_map}
use Rattle.bank_parts.specs.declared.parts.Sample.{Sample}
use Rattle.bank_parts.specs.declared.parts.Parts.{Parts}
use Rattle.edit_forms.specs.declared.edit.Edit.{Edit}
use Rattle.bank_edits.specs.Runs.{after_all}
use Rattle.wave_file.specs.declared.recording.Recording.{Recording}
use Rattle.wave_file.specs.Recordings.{own_pitch}
use Rattle.sample_replacements.specs.Replacements.{replacement_edits, replaced}

-- The edits lead to the bank with the recording in the place of the sample.
abbrev pub ReplacingKeeps : Type 0
ReplacingKeeps =
    (b : Parts) (n : ℕ) (r : Recording) (edits : List Edit) → replacement_edits b n r ≡ Ok edits
    → after_all b edits ≡ replaced b n r

-- c has the presets and instruments of b, and as many samples, with the same names and kinds
pub record KeepsRest (b c : Parts) : Type 0 where
  pub presets : c.presets ≡ b.presets
  pub instruments : c.instruments ≡ b.instruments
  pub count : length c.samples ≡ length b.samples
  pub names : (i : ℕ)
      → option_map (λ (s : Sample). s.name) (slice_get c.samples i)
      ≡ option_map (λ (s : Sample). s.name) (slice_get b.samples i)
  pub kinds : (i : ℕ)
      → option_map (λ (s : Sample). s.kind) (slice_get c.samples i)
      ≡ option_map (λ (s : Sample). s.kind) (slice_get b.samples i)

-- Zones, names and links stay.
abbrev pub RestStays : Type 0
RestStays = (b : Parts) (n : ℕ) (r : Recording) → KeepsRest b (replaced b n r)

-- Where the recording has no pitch, each sample keeps its own.
abbrev pub PitchesStay : Type 0
PitchesStay =
    (b : Parts) (n : ℕ) (r : Recording) → r.sampler.pitch ≡ None → (i : ℕ)
    → option_map own_pitch (slice_get (replaced b n r).samples i) ≡ option_map own_pitch (slice_get b.samples i)
