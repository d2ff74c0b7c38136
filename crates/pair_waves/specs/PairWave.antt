-- The bytes of the WAVE file of a left and a right sample: 16-bit stereo, with the loop, key and correction of the left
-- one.
use Rattle.std.specs.Prelude.{◌-◌, ◌*◌, ◌^◌, ℕ, min, List, [], ◌∷◌, ◌++◌}
use Rattle.byteorder.specs.Endian.{little_bytes}
use Rattle.riff_chunks.specs.Walk.{Chunk}
use Rattle.riff_chunks.specs.Encoding.{chunk, encode}
use Rattle.bank_parts.specs.declared.parts.Sample.{Sample}
use Rattle.wave_file.specs.Wave.{RIFF, WAVE, FORMAT, DATA}
use Rattle.wave_file.specs.SampleWave.{SAMPLER, sampler, made}
use Rattle.pair_waves.specs.Frames.{interleaved}

-- integer PCM, two channels, frames per second, bytes per second, bytes per frame, bits per sample
unfoldable pub stereo_format : ℕ → List ℕ
stereo_format rate =
    little_bytes 2 1 ++ little_bytes 2 2 ++ little_bytes 4 rate ++ little_bytes 4 (min (rate * 4) (2 ^ 32 - 1))
    ++ little_bytes 2 4 ++ little_bytes 2 16

unfoldable pub pair_chunks : Sample → Sample → List Chunk
pair_chunks left right =
    made FORMAT (stereo_format left.rate)
    ∷ made SAMPLER (sampler left)
    ∷ made DATA (interleaved left.points right.points)
    ∷ []

-- the WAVE file of a left and a right sample
unfoldable pub pair_wave : Sample → Sample → List ℕ
pair_wave left right = chunk RIFF (WAVE ++ encode (pair_chunks left right))
