-- Steps that edit one sample's contents: their effects, causes of refusal, and inverses.
use Rattle.std.specs.Prelude.{◌<◌, ◌^◌, ◌-◌, ℕ, Bool, true, false, List, [], ◌∷◌, length, take, drop, slice_get}
use Rattle.std.specs.Prelude.{Option, Some, None, FitsSigned}
use Rattle.std.specs.Option.{option_map_or}
use Rattle.std.specs.Int.{w8}
use Rattle.sample_view.specs.Words.{AreWords}
use Rattle.bank_parts.specs.declared.parts.Sample.{Sample}
use Rattle.bank_parts.specs.declared.parts.Parts.{Parts}
use Rattle.bank_parts.specs.Fits.{FitsLoop, FitsKind}
use Rattle.bank_changes.specs.Points.{points_of, sample_trimmed, sample_extended, loop_set, kind_set, tune_set}
use Rattle.edit_forms.specs.declared.points.PointStep.{PointStep}
use Rattle.edit_forms.specs.declared.points.PointStep.TheVariants.{Trim, Extend, SetLoop, SetKind, SetTune}
use Rattle.edit_forms.specs.Causes.{Test, too_short, loop_cut, bad_loop_of, no_such_link_among}

-- each number, name and text is in the range of its field
abbrev pub Fits : PointStep → Type 0
Fits (Trim front back) = (front < 2 ^ 32) × (back < 2 ^ 32)
Fits (Extend front back) = AreWords front × AreWords back
Fits (SetLoop looped) = FitsLoop looped
Fits (SetKind kind) = FitsKind kind
Fits (SetTune rate key correction) = (rate < 2 ^ 32) × (key < 2 ^ 8) × FitsSigned w8 correction

-- the bank after an accepted step
abbrev pub raw : Parts → ℕ → PointStep → Parts
raw b sample (Trim front back) = sample_trimmed b sample front back
raw b sample (Extend front back) = sample_extended b sample front back
raw b sample (SetLoop looped) = loop_set b sample looped
raw b sample (SetKind kind) = kind_set b sample kind
raw b sample (SetTune rate key correction) = tune_set b sample rate key correction

-- the step's possible causes of refusal, in the order of their numbers
abbrev pub causes : Parts → ℕ → PointStep → List Test
causes b sample (Trim front back) = too_short b sample front back ∷ loop_cut b sample front back ∷ []
causes b sample (Extend front back) = []
causes b sample (SetLoop looped) = bad_loop_of b sample looped ∷ []
causes b sample (SetKind kind) = no_such_link_among b kind ∷ []
causes b sample (SetTune rate key correction) = []

-- the inverse step, computed from the bank before the step
abbrev pub inverse : Parts → ℕ → PointStep → PointStep
inverse b sample (Trim front back) =
    Extend (take front (points_of b sample)) (drop (length (points_of b sample) - back) (points_of b sample))
inverse b sample (Extend front back) = Trim (length front) (length back)
inverse b sample (SetLoop looped) =
    option_map_or (λ (s : Sample). SetLoop s.looped) (slice_get b.samples sample) (SetLoop looped)
inverse b sample (SetKind kind) =
    option_map_or (λ (s : Sample). SetKind s.kind) (slice_get b.samples sample) (SetKind kind)
inverse b sample (SetTune rate key correction) =
    option_map_or (λ (s : Sample). SetTune s.rate s.key s.correction) (slice_get b.samples sample)
    (SetTune rate key correction)

-- applying the step allocates nothing
abbrev pub AllocatesNothing : PointStep → Type 0
AllocatesNothing (Trim front back) = ⊥
AllocatesNothing (Extend front back) = ⊥
AllocatesNothing (SetLoop looped) = Unit {0}
AllocatesNothing (SetKind kind) = Unit {0}
AllocatesNothing (SetTune rate key correction) = Unit {0}

-- the step changes no sound, for any bank
abbrev pub is_neutral : PointStep → Bool
is_neutral (Trim front back) = false
is_neutral (Extend front back) = false
is_neutral (SetLoop looped) = false
is_neutral (SetKind kind) = true
is_neutral (SetTune rate key correction) = false

-- the points that the step adds before and after those of the sample
abbrev pub added_points : PointStep → Option (List ℕ × List ℕ)
added_points (Extend front back) = Some (front, back)
added_points _ = None
