-- The edits that append a recording to a bank's samples.
use Rattle.std.specs.Prelude.{◌+◌, ℕ, nat_lt, if◌then◌else◌, codes, List, [], ◌∷◌, ◌++◌, take, unwrap_or}
use Rattle.sf_base.specs.declared.limits.TheConstants.{SAMPLES}
use Rattle.sf_base.specs.Names.{before_zero}
use Rattle.bank_parts.specs.declared.parts.Kind.{Kind}
use Rattle.bank_parts.specs.declared.parts.Kind.TheVariants as kind
use Rattle.bank_parts.specs.declared.parts.Sample.{Sample}
use Rattle.edit_forms.specs.declared.edit.Edit.{Edit}
use Rattle.edit_forms.specs.declared.edit.Edit.TheVariants.{One}
use Rattle.edit_forms.specs.declared.points.PointStep.TheVariants.{SetKind}
use Rattle.edit_forms.specs.declared.samples.SampleStep.TheVariants.{AddSample}
use Rattle.edit_forms.specs.declared.step.Step.TheVariants as steps
use Rattle.wave_file.specs.declared.recording.Channels.{Channels}
use Rattle.wave_file.specs.declared.recording.Channels.TheVariants.{Mono, MonoSamples, Stereo}
use Rattle.wave_file.specs.declared.recording.Sampler.{Sampler}
use Rattle.wave_file.specs.declared.recording.Recording.{Recording}
use Rattle.wave_file.specs.Recordings.{default_pitch}

-- ---- the points of two channels

pub record BothSides : Type 0 where
  pub left : List ℕ
  pub right : List ℕ

-- those that are not borrowed from the file; a mono recording has a left side only
abbrev pub sides_of : Channels → BothSides
sides_of (Mono points) = record { left = []; right = [] }
sides_of (MonoSamples points) = record { left = points; right = [] }
sides_of (Stereo left right) = record { left = left; right = right }

-- ---- the names

-- the first 20 bytes, up to the first zero byte
abbrev pub mono_name : List ℕ → List ℕ
mono_name name = before_zero (take 20 name)

-- the first 18 bytes, up to the first zero byte, then the side's letter
abbrev pub side_name : List ℕ → List ℕ → List ℕ
side_name name letter = before_zero (take 18 name) ++ letter

-- ---- the edits

-- with the pitch of the recording, if it has one
abbrev pub sample_of : ℕ → Sampler → List ℕ → List ℕ → Kind → Sample
sample_of rate sampler name points kind = record {
  name = name;
  points = points;
  looped = sampler.looped;
  rate = rate;
  key = (unwrap_or sampler.pitch default_pitch).key;
  correction = (unwrap_or sampler.pitch default_pitch).correction;
  kind = kind;
}

abbrev pub add_edit : ℕ → Sample → Edit
add_edit at sample = One (steps.Sample (AddSample at sample))

-- The samples get the numbers n and n + 1, and the first is linked to the second. In a full bank the first edit is
-- refused; the later ones, whose numbers would not fit, are left out.
abbrev pub pair_edits : ℕ → Sample → Sample → List Edit
pair_edits n left right =
    if nat_lt n SAMPLES then add_edit n left ∷ add_edit (n + 1) right
    ∷ One (steps.Points n (SetKind (kind.Left (n + 1)))) ∷ []
    else add_edit n left ∷ []

abbrev pub mono_edits : ℕ → List ℕ → ℕ → Sampler → List ℕ → List Edit
mono_edits n name rate sampler points =
    add_edit n (sample_of rate sampler (mono_name name) points kind.Mono) ∷ []

-- a mono recording becomes one sample, a stereo recording a left and a right one
abbrev pub channel_edits : ℕ → List ℕ → ℕ → Sampler → Channels → List Edit
channel_edits n name rate sampler (Mono points) = mono_edits n name rate sampler points
channel_edits n name rate sampler (MonoSamples points) = mono_edits n name rate sampler points
channel_edits n name rate sampler (Stereo left right) =
    pair_edits n
    (sample_of rate sampler (side_name name (codes " L")) left kind.Mono)
    (sample_of rate sampler (side_name name (codes " R")) right (kind.Right n))

-- the edits that append a recording with this name to n samples
unfoldable pub import_edits : ℕ → List ℕ → Recording → List Edit
import_edits n name r = channel_edits n name r.rate r.sampler r.channels
