-- The bytes of a WAVE file: 16-bit stereo, 44,100 frames per second.
use Rattle.std.specs.Prelude.{◌≡◌, ◌≤◌, ◌+◌, ◌*◌, ◌%◌, ℕ, ℤ, codes, List, ◌++◌, length}
use Rattle.std.specs.List.{flat_map}
use Rattle.std.specs.Int.{w16, cast_unsigned}
use Rattle.byteorder.specs.Endian.{little_bytes}

-- the ids of the file and of its two chunks, and its form type
unfoldable pub RIFF : List ℕ
RIFF = codes "RIFF"

unfoldable pub WAVE : List ℕ
WAVE = codes "WAVE"

unfoldable pub FORMAT : List ℕ
FORMAT = codes "fmt "

unfoldable pub DATA : List ℕ
DATA = codes "data"

-- a chunk's id and the size of its body
abbrev pub chunk_head : List ℕ → ℕ → List ℕ
chunk_head id size = id ++ little_bytes 4 size

-- the `fmt ` chunk: integer PCM, two channels, frames per second, bytes per second, bytes per frame, bits per sample
unfoldable pub format : List ℕ
format =
    chunk_head FORMAT 16
    ++ little_bytes 2 1 ++ little_bytes 2 2 ++ little_bytes 4 44100 ++ little_bytes 4 176400 ++ little_bytes 2 4
    ++ little_bytes 2 16

-- all bytes before `size` bytes of samples
unfoldable pub head : ℕ → List ℕ
head size = chunk_head RIFF (36 + size) ++ WAVE ++ format ++ chunk_head DATA size

-- a sample of one channel, little-endian
abbrev pub sample_bytes : ℤ → List ℕ
sample_bytes sample = little_bytes 2 (cast_unsigned w16 sample)

-- the WAVE file of frames: left and right samples in turn
abbrev pub wave : List ℤ → List ℕ
wave frames = head (2 * length frames) ++ flat_map sample_bytes frames

-- whole frames, and a file whose sizes fit into 32 bits
pub record FitsWave (frames : List ℤ) : Type 0 where
  pub whole : length frames % 2 ≡ 0
  pub size : 36 + 2 * length frames ≤ 4294967295
