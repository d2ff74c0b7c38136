-- Steps that edit the list of samples: their effects, causes of refusal, and inverses.
use Rattle.std.specs.Prelude.{◌<◌, ◌^◌, ℕ, Bool, true, List, [], ◌∷◌, length, slice_get, Option, Some, None}
use Rattle.std.specs.Option.{option_map_or}
use Rattle.sf_base.specs.Names.{IsName}
use Rattle.bank_parts.specs.declared.parts.Sample.{Sample}
use Rattle.bank_parts.specs.declared.parts.Parts.{Parts}
use Rattle.bank_parts.specs.Fits.{FitsSample}
use Rattle.bank_changes.specs.Samples.{sample_renamed, sample_added, sample_removed, sample_moved}
use Rattle.edit_forms.specs.declared.samples.SampleStep.{SampleStep}
use Rattle.edit_forms.specs.declared.samples.SampleStep.TheVariants.{RenameSample, AddSample, RemoveSample, MoveSample}
use Rattle.edit_forms.specs.Causes.{Test, no_such_sample, no_such_link, used_sample, bad_member_index, bad_insert_index, bad_loop}

-- each number, name and text is in the range of its field
abbrev pub Fits : SampleStep → Type 0
Fits (RenameSample sample name) = (sample < 2 ^ 32) × IsName name
Fits (AddSample at sample) = (at < 2 ^ 32) × FitsSample sample
Fits (RemoveSample sample) = sample < 2 ^ 32
Fits (MoveSample from to) = (from < 2 ^ 32) × (to < 2 ^ 32)

-- the bank after an accepted step
abbrev pub raw : Parts → SampleStep → Parts
raw b (RenameSample sample name) = sample_renamed b sample name
raw b (AddSample at sample) = sample_added b at sample
raw b (RemoveSample sample) = sample_removed b sample
raw b (MoveSample from to) = sample_moved b from to

-- the step's possible causes of refusal, in the order of their numbers
abbrev pub causes : Parts → SampleStep → List Test
causes b (RenameSample sample name) = no_such_sample b sample ∷ []
causes b (AddSample at sample) = no_such_link b sample.kind ∷ bad_insert_index (length b.samples) at ∷ bad_loop sample ∷ []
causes b (RemoveSample sample) = no_such_sample b sample ∷ used_sample b sample ∷ []
causes b (MoveSample from to) = no_such_sample b from ∷ bad_member_index (length b.samples) to ∷ []

-- the inverse step, computed from the bank before the step
abbrev pub inverse : Parts → SampleStep → SampleStep
inverse b (RenameSample sample name) =
    option_map_or (λ (s : Sample). RenameSample sample s.name) (slice_get b.samples sample) (RenameSample sample name)
inverse b (AddSample at sample) = RemoveSample at
inverse b (RemoveSample sample) =
    option_map_or (λ (s : Sample). AddSample sample s) (slice_get b.samples sample) (RemoveSample sample)
inverse b (MoveSample from to) = MoveSample to from

-- applying the step allocates nothing
abbrev pub AllocatesNothing : SampleStep → Type 0
AllocatesNothing (RenameSample sample name) = Unit {0}
AllocatesNothing (AddSample at sample) = ⊥
AllocatesNothing (RemoveSample sample) = ⊥
AllocatesNothing (MoveSample from to) = Unit {0}

-- the step changes no sound, for any bank
abbrev pub is_neutral : SampleStep → Bool
is_neutral s = true

-- the sample that the step adds
abbrev pub added_sample : SampleStep → Option Sample
added_sample (AddSample at sample) = Some sample
added_sample _ = None

-- the name that the step sets
abbrev pub new_name : SampleStep → Option (List ℕ)
new_name (RenameSample sample name) = Some name
new_name _ = None
