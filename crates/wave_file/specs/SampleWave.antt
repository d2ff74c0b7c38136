-- The bytes of the WAVE file of a sample: 16-bit mono, with its loop, key and correction.
use Rattle.std.specs.Prelude.{◌-◌, ◌*◌, ◌/◌, ◌^◌, ◌==◌, if◌then◌else◌, ℕ, ℤ, min, codes, List, [], ◌∷◌, ◌++◌}
use Rattle.std.specs.Prelude.{Option, Some, None}
use Rattle.std.specs.List.{flat_map}
use Rattle.std.specs.Int.{w8, cast_unsigned}
use Rattle.byteorder.specs.Endian.{little_bytes}
use Rattle.riff_chunks.specs.Walk.{Chunk}
use Rattle.riff_chunks.specs.Encoding.{chunk, encode}
use Rattle.sample_view.specs.Words.{word_bytes}
use Rattle.bank_parts.specs.declared.parts.Sample.{Sample}
use Rattle.wave_file.specs.Wave.{RIFF, WAVE, FORMAT, DATA}
use Rattle.wave_file.specs.SamplerPitch.{unity_note, pitch_fraction}

unfoldable pub SAMPLER : List ℕ
SAMPLER = codes "smpl"

-- 32-bit numbers, little-endian
abbrev pub numbers : List ℕ → List ℕ
numbers ns = flat_map (little_bytes 4) ns

-- integer PCM, one channel, frames per second, bytes per second, bytes per frame, bits per sample
unfoldable pub mono_format : ℕ → List ℕ
mono_format rate =
    little_bytes 2 1 ++ little_bytes 2 1 ++ little_bytes 4 rate ++ little_bytes 4 (min (rate * 2) (2 ^ 32 - 1))
    ++ little_bytes 2 2 ++ little_bytes 2 16

-- the duration of a frame, in nanoseconds
abbrev pub frame_time : ℕ → ℕ
frame_time rate = if rate == 0 then 0 else 1000000000 / rate

abbrev pub loop_count : Option (ℕ × ℕ) → ℕ
loop_count None = 0
loop_count (Some looped) = 1

-- manufacturer, product, sample period, unity note, pitch fraction, SMPTE format and offset, number of loops, size of
-- the sampler data
unfoldable pub sampler_head : Sample → List ℕ
sampler_head s =
    numbers
    (0 ∷ 0 ∷ frame_time s.rate ∷ unity_note s.key s.correction ∷ pitch_fraction s.key s.correction ∷ 0 ∷ 0
    ∷ loop_count s.looped ∷ 8 ∷ [])

-- an infinite forward loop, by its first point and its last point
unfoldable pub loop_bytes : Option (ℕ × ℕ) → List ℕ
loop_bytes None = []
loop_bytes (Some looped) = numbers (0 ∷ 0 ∷ looped.0 ∷ (looped.1 - 1) ∷ 0 ∷ 0 ∷ [])

-- The sampler data: key and correction of the sample, which its pitch does not determine.
unfoldable pub stored_pitch : ℕ → ℤ → List ℕ
stored_pitch key correction = codes "sfbk" ++ (key ∷ cast_unsigned w8 correction ∷ 0 ∷ 0 ∷ [])

abbrev pub sampler : Sample → List ℕ
sampler s = sampler_head s ++ (loop_bytes s.looped ++ stored_pitch s.key s.correction)

abbrev pub made : List ℕ → List ℕ → Chunk
made id body = record { id = id; body = body }

unfoldable pub sample_chunks : Sample → List Chunk
sample_chunks s =
    made FORMAT (mono_format s.rate) ∷ made SAMPLER (sampler s) ∷ made DATA (flat_map word_bytes s.points) ∷ []

-- the WAVE file of a sample
unfoldable pub sample_wave : Sample → List ℕ
sample_wave s = chunk RIFF (WAVE ++ encode (sample_chunks s))
