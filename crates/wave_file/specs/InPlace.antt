-- Reading a WAVE file in place: the points of a single channel are written over its frames.
use Rattle.std.specs.Prelude.{◌≡◌, ◌<◌, ◌≤◌, ◌+◌, ◌*◌, ℕ, List, length, take, drop, Some, Result, Ok, Err, ⊤}
use Rattle.std.specs.Result.{result_map_both}
use Rattle.sf_base.specs.declared.memory.Failure.{Failure}
use Rattle.sf_base.specs.declared.memory.Failure.TheVariants.{Fault, OutOfMemory}
use Rattle.riff_chunks.specs.Finding.{first_body}
use Rattle.pcm_points.specs.Samples.{size_of}
use Rattle.pcm_points.specs.Points.{channel_words}
use Rattle.wave_file.specs.Wave.{DATA}
use Rattle.wave_file.specs.Streams.{wave_chunks}
use Rattle.wave_file.specs.declared.fault.WaveFault.{WaveFault}
use Rattle.wave_file.specs.declared.options.ReadOptions.{ReadOptions}
use Rattle.wave_file.specs.declared.recording.Format.{Format}
use Rattle.wave_file.specs.declared.recording.Layout.TheVariants as layout
use Rattle.wave_file.specs.declared.recording.Channels.{Channels}
use Rattle.wave_file.specs.declared.recording.Channels.TheVariants.{Mono, MonoSamples, Stereo}
use Rattle.wave_file.specs.declared.recording.Recording.{Recording}
use Rattle.wave_file.specs.declared.recording.Sampler.{Sampler}
use Rattle.wave_file.specs.declared.data_range.ByteRange.{ByteRange}
use Rattle.wave_file.specs.declared.channel_frames.ChannelFrames.{ChannelFrames}
use Rattle.wave_file.specs.ReadChecks.{recording_in}

-- ---- a recording with its points

-- the same points, without regard to whether samples are still to be converted
abbrev pub as_points : Channels → Channels
as_points (Mono points) = Mono points
as_points (MonoSamples points) = Mono points
as_points (Stereo left right) = Stereo left right

abbrev pub with_points : Recording → Recording
with_points r = record r { channels = as_points r.channels }

-- The recording that is due, with the same points, or its fault; or `OutOfMemory`, which any call that allocates may
-- return.
abbrev pub ReadsPoints : Result Recording WaveFault → Result Recording (Failure WaveFault) → Type 0
ReadsPoints due (Ok r) = result_map_both with_points (λ fault. fault) due ≡ Ok (with_points r)
ReadsPoints due (Err (Fault fault)) = due ≡ Err fault
ReadsPoints due (Err OutOfMemory) = ⊤

-- its rate and its `smpl` chunk, or its fault
abbrev pub head_of : Result Recording WaveFault → Result (ℕ × Sampler) WaveFault
head_of due = result_map_both (λ (r : Recording). (r.rate, r.sampler)) (λ fault. fault) due

-- ---- where its samples are

abbrev pub bytes_at : ByteRange → List ℕ → List ℕ
bytes_at range bytes = take range.size (drop range.position bytes)

-- a range of a window, which is the body of the first `data` chunk, after its header
pub record IsData (range : ByteRange) (w : List ℕ) : Type 0 where
  pub header : 8 ≤ range.position
  pub within : range.position + range.size ≤ length w
  pub body : first_body DATA (wave_chunks w) ≡ Some (bytes_at range w)

-- the frames of a format in a range of a file: those of a single channel, which have the bytes of a point at least
pub record AreOf (f : ChannelFrames) (format : Format) (range : ByteRange) : Type 0 where
  pub same_range : f.range ≡ range
  pub layout : format.layout ≡ layout.Mono f.channels f.channel
  pub encoding : f.encoding ≡ format.encoding
  pub count : f.channels ≤ 65535
  pub room : 2 ≤ f.channels * size_of f.encoding

-- the points of a channel of frames, without dither
abbrev pub frame_words : ChannelFrames → List ℕ → List ℕ
frame_words f file = channel_words f.encoding f.channels f.channel (bytes_at f.range file)

-- the frames of the recording in a file
pub record AreFrames (f : ChannelFrames) (options : ReadOptions) (file : List ℕ) : Type 0 where
  pub within : f.range.position + f.range.size ≤ length file
  pub channel : f.channel < f.channels
  pub count : f.channels ≤ 65535
  pub room : 2 ≤ f.channels * size_of f.encoding
  pub points : (r : Recording) → recording_in options file ≡ Ok r → as_points r.channels ≡ Mono (frame_words f file)
