-- The effect, the refusal and the inverse of a step, by its group of forms.
use Rattle.std.specs.Prelude.{Bool, Option, List, ◌∷◌}
use Rattle.std.specs.Option.{option_map}
use Rattle.bank_parts.specs.declared.parts.Parts.{Parts}
use Rattle.bank_validity.specs.Limits.{broken_limit}
use Rattle.edit_forms.specs.declared.cause.Cause.{Cause}
use Rattle.edit_forms.specs.declared.cause.Cause.TheVariants.{Full}
use Rattle.edit_forms.specs.declared.step.Step.{Step}
use Rattle.edit_forms.specs.declared.step.Step.TheVariants.{Preset, Instrument, Sample, Points, Zone, Setting, Text}
use Rattle.edit_forms.specs.Causes.{Test, first_cause, no_such_sample, no_such_owner, no_such_zone_at}
use Rattle.edit_forms.specs.Presets as presets
use Rattle.edit_forms.specs.Instruments as instruments
use Rattle.edit_forms.specs.Samples as samples
use Rattle.edit_forms.specs.Points as points
use Rattle.edit_forms.specs.Zones as zones
use Rattle.edit_forms.specs.Settings as settings
use Rattle.edit_forms.specs.Texts as texts

-- the bank after an accepted step
abbrev pub raw : Parts → Step → Parts
raw b (Preset s) = presets.raw b s
raw b (Instrument s) = instruments.raw b s
raw b (Sample s) = samples.raw b s
raw b (Points i s) = points.raw b i s
raw b (Zone o s) = zones.raw b o s
raw b (Setting o at s) = settings.raw b o at s
raw b (Text s) = texts.raw b s

-- the step's possible causes of refusal, in the order of their numbers: first that what it edits exists
abbrev pub causes : Parts → Step → List Test
causes b (Preset s) = presets.causes b s
causes b (Instrument s) = instruments.causes b s
causes b (Sample s) = samples.causes b s
causes b (Points i s) = no_such_sample b i ∷ points.causes b i s
causes b (Zone o s) = no_such_owner b o ∷ zones.causes b o s
causes b (Setting o at s) = no_such_owner b o ∷ no_such_zone_at b o at ∷ settings.causes b o at s
causes b (Text s) = texts.causes b s

-- The cause of refusal: the first test that applies, otherwise the first limit that the changed bank would break.
-- None if the step is accepted.
abbrev pub refusal : Parts → Step → Option Cause
refusal b s = first_cause (causes b s) (option_map Full (broken_limit (raw b s)))

-- the inverse step, computed from the bank before the step
abbrev pub inverse : Parts → Step → Step
inverse b (Preset s) = Preset (presets.inverse b s)
inverse b (Instrument s) = Instrument (instruments.inverse b s)
inverse b (Sample s) = Sample (samples.inverse b s)
inverse b (Points i s) = Points i (points.inverse b i s)
inverse b (Zone o s) = Zone o (zones.inverse b o s)
inverse b (Setting o at s) = Setting o at (settings.inverse b o at s)
inverse b (Text s) = Text (texts.inverse b s)

-- applying the step allocates nothing
abbrev pub AllocatesNothing : Step → Type 0
AllocatesNothing (Preset s) = presets.AllocatesNothing s
AllocatesNothing (Instrument s) = instruments.AllocatesNothing s
AllocatesNothing (Sample s) = samples.AllocatesNothing s
AllocatesNothing (Points i s) = points.AllocatesNothing s
AllocatesNothing (Zone o s) = zones.AllocatesNothing s
AllocatesNothing (Setting o at s) = settings.AllocatesNothing s
AllocatesNothing (Text s) = texts.AllocatesNothing s

-- the step changes no sound, for any bank
abbrev pub is_neutral_step : Step → Bool
is_neutral_step (Preset s) = presets.is_neutral s
is_neutral_step (Instrument s) = instruments.is_neutral s
is_neutral_step (Sample s) = samples.is_neutral s
is_neutral_step (Points i s) = points.is_neutral s
is_neutral_step (Zone o s) = zones.is_neutral s
is_neutral_step (Setting o at s) = settings.is_neutral s
is_neutral_step (Text s) = texts.is_neutral s
