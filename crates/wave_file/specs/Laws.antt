-- Laws of the WAVE files that are written, and of reading them.
use Rattle.std.specs.Prelude.{◌≡◌, ◌≤◌, length, Some, Ok}
use Rattle.sf_base.specs.declared.limits.TheConstants.{POINTS}
use Rattle.bank_parts.specs.declared.parts.Sample.{Sample}
use Rattle.bank_parts.specs.Valid.{IsLoop}
use Rattle.bank_parts.specs.Fits.{FitsSample}
use Rattle.wave_file.specs.SampleWave.{sample_wave}
use Rattle.wave_file.specs.declared.recording.Channels.TheVariants.{Mono}
use Rattle.wave_file.specs.declared.recording.Recording.{Recording}
use Rattle.wave_file.specs.Recordings.{as_stored, own_pitch}
use Rattle.wave_file.specs.ReadChecks.{recording_in}

-- a mono recording with the points, the rate, the key, the correction and the loop of a sample
abbrev pub recorded : Sample → Recording
recorded s = record {
  channels = Mono s.points;
  rate = s.rate;
  sampler = record { pitch = Some (own_pitch s); looped = s.looped };
}

-- The WAVE file of a sample that a bank can have reads back as that sample, without options.
abbrev pub WavesReadBack : Type 0
WavesReadBack =
    (s : Sample) → FitsSample s → IsLoop (length s.points) s.looped → length s.points ≤ POINTS
    → recording_in as_stored (sample_wave s) ≡ Ok (recorded s)
