-- Replacements by recordings that are read in place.
use Rattle.std.proofs.Common.{◌≡◌, ℕ, Result, refl, ap}
use Rattle.bank_parts.specs.declared.parts.Parts.{Parts}
use Rattle.wave_file.specs.declared.recording.Channels.{Channels}
use Rattle.wave_file.specs.declared.recording.Channels.TheVariants.{Mono, MonoSamples, Stereo}
use Rattle.wave_file.specs.declared.recording.Recording.{Recording}
use Rattle.wave_file.specs.InPlace.{as_points, with_points}
use Rattle.sample_replacements.specs.Replacements.{targets, edits_of, replacement_edits}

-- no edit of a replacement depends on whether samples are converted
pub replacement_points : (b : Parts) (n : ℕ) (r : Recording)
    → replacement_edits b n r ≡ replacement_edits b n (with_points r)
unfolding replacement_edits
replacement_points b n r = ap (edits_of b r.rate r.sampler) (by_channels r.channels)
  where
    by_channels : (channels : Channels) → targets b.samples n channels ≡ targets b.samples n (as_points channels)
    by_channels (Mono points) = refl
    by_channels (MonoSamples points) = refl
    by_channels (Stereo left right) = refl
