-- The law of the WAVE files of pairs, and of reading them.
use Rattle.std.specs.Prelude.{◌≡◌, ◌≤◌, length, Some, Ok}
use Rattle.sf_base.specs.declared.limits.TheConstants.{POINTS}
use Rattle.bank_parts.specs.declared.parts.Sample.{Sample}
use Rattle.bank_parts.specs.Valid.{IsLoop}
use Rattle.bank_parts.specs.Fits.{FitsSample}
use Rattle.wave_file.specs.declared.recording.Channels.TheVariants.{Stereo}
use Rattle.wave_file.specs.declared.recording.Recording.{Recording}
use Rattle.wave_file.specs.Recordings.{as_stored, own_pitch}
use Rattle.wave_file.specs.ReadChecks.{recording_in}
use Rattle.pair_waves.specs.PairWave.{pair_wave}

-- a stereo recording with the points of both samples, and the rate, the key, the correction and the loop of the left
abbrev pub recorded_pair : Sample → Sample → Recording
recorded_pair left right = record {
  channels = Stereo left.points right.points;
  rate = left.rate;
  sampler = record { pitch = Some (own_pitch left); looped = left.looped };
}

-- The WAVE file of a left and a right sample of one length, which a bank can have, reads back as those samples.
abbrev pub PairsReadBack : Type 0
PairsReadBack =
    (left right : Sample) → FitsSample left → FitsSample right → IsLoop (length left.points) left.looped
    → length left.points ≡ length right.points → length left.points ≤ POINTS
    → recording_in as_stored (pair_wave left right) ≡ Ok (recorded_pair left right)
