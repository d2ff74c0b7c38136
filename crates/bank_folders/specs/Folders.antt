-- A script without points, and the points that its lines get from files.
use Rattle.std.specs.Prelude.{◌==◌, if◌then◌else◌, nat_le, ℕ, Bool, List, [], ◌∷◌, length, drop, filter_map}
use Rattle.std.specs.Prelude.{Option, Some, None, is_some, Result, Ok, Err}
use Rattle.bank_parts.specs.declared.parts.Sample.{Sample}
use Rattle.edit_forms.specs.declared.samples.SampleStep.{SampleStep}
use Rattle.edit_forms.specs.declared.samples.SampleStep.TheVariants.{AddSample}
use Rattle.edit_forms.specs.declared.step.Step.{Step}
use Rattle.edit_forms.specs.declared.step.Step.TheVariants as steps
use Rattle.edit_forms.specs.declared.edit.Edit.{Edit}
use Rattle.edit_forms.specs.declared.edit.Edit.TheVariants.{One, Group}
use Rattle.script_tokens.specs.Pool.{and_then}
use Rattle.edit_script.specs.declared.parsing.Line.{Line}
use Rattle.wave_file.specs.declared.fault.WaveFault.{WaveFault}
use Rattle.wave_file.specs.declared.fault.WaveFault.TheVariants as fault
use Rattle.wave_file.specs.declared.recording.Channels.{Channels}
use Rattle.wave_file.specs.declared.recording.Channels.TheVariants.{Mono, MonoSamples, Stereo}
use Rattle.wave_file.specs.declared.recording.Recording.{Recording}
use Rattle.wave_file.specs.Recordings.{as_stored}
use Rattle.wave_file.specs.ReadChecks.{recording_in}
use Rattle.bank_folders.specs.declared.bare.BareSample.{BareSample}

-- ---- samples without points

-- a sample that a line adds, if it has no points
abbrev pub bare_if : ℕ → ℕ → Sample → Option BareSample
bare_if line number s =
    if length s.points == 0
    then Some (record { line = line; number = number; name = s.name; rate = s.rate; looped = s.looped }) else None

abbrev pub bare_of_list_step : ℕ → SampleStep → Option BareSample
bare_of_list_step line (AddSample number s) = bare_if line number s
bare_of_list_step line _ = None

abbrev pub bare_of_step : ℕ → Step → Option BareSample
bare_of_step line (steps.Sample step) = bare_of_list_step line step
bare_of_step line _ = None

-- the sample that an edit of one step adds without points
abbrev pub bare_of : ℕ → Edit → Option BareSample
bare_of line (One step) = bare_of_step line step
bare_of line (Group steps) = None

-- the sample that a line adds without points
abbrev pub bare_in : Line → Option BareSample
bare_in l = bare_of l.number l.edit

-- the samples that lines add without points
abbrev pub bare_samples : List Line → List BareSample
bare_samples lines = filter_map bare_in lines

-- ---- the points of a file

-- the point after the last of a loop
abbrev pub loop_end : Option (ℕ × ℕ) → ℕ
loop_end None = 0
loop_end (Some looped) = looped.1

-- the points of a mono recording of 16 bits
abbrev pub mono_points : Channels → Result (List ℕ) WaveFault
mono_points (Mono points) = Ok points
mono_points (MonoSamples points) = Err fault.NotSixteenBits
mono_points (Stereo left right) = Err fault.TwoChannels

-- points at this rate, if it is that of the sample and they contain its loop
abbrev pub fitting : BareSample → ℕ → List ℕ → Result (List ℕ) WaveFault
fitting s rate points =
    if rate == s.rate then (if nat_le (loop_end s.looped) (length points) then Ok points else Err fault.ShortForLoop)
    else Err fault.OtherRate

-- the points of a WAVE file for a sample, or why it can't have them
abbrev pub points_for : BareSample → List ℕ → Result (List ℕ) WaveFault
points_for s wave =
    and_then (recording_in as_stored wave) (λ (r : Recording). and_then (mono_points r.channels) (fitting s r.rate))

-- ---- lines with points

-- an added sample with these points
abbrev pub list_step_with : SampleStep → List ℕ → SampleStep
list_step_with (AddSample number s) points = AddSample number (record s { points = points })
list_step_with step _ = step

abbrev pub step_with : Step → List ℕ → Step
step_with (steps.Sample step) points = steps.Sample (list_step_with step points)
step_with step _ = step

abbrev pub edit_with : Edit → List ℕ → Edit
edit_with (One step) points = One (step_with step points)
edit_with (Group steps) points = Group steps

-- a line that adds a sample, with these points
abbrev pub line_with : Line → List ℕ → Line
line_with l points = record { number = l.number; edit = edit_with l.edit points }

-- the line with the first of these points, if there are any
abbrev pub with_first : Line → List (List ℕ) → Line
with_first l [] = l
with_first l (points ∷ others) = line_with l points

-- the line adds a sample without points
abbrev pub is_bare : Line → Bool
is_bare l = is_some (bare_in l)

-- lines, each sample that a line adds without points with the next of these points
unfoldable pub filled : List Line → List (List ℕ) → List Line
filled [] points = []
filled (l ∷ lines) points =
    if is_bare l then with_first l points ∷ filled lines (drop 1 points) else l ∷ filled lines points
