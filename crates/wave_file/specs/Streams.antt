-- The window and the chunks of a WAVE file. A program that writes to a pipe can't go back to its headers, and leaves
-- the sizes of the file and of its data unknown.
use Rattle.std.specs.Prelude.{◌+◌, ◌%◌, ◌||◌, if◌then◌else◌, ℕ, Bool, List, [], ◌∷◌, ◌++◌, length, take, drop}
use Rattle.std.specs.Prelude.{sum_by, bytes_eq}
use Rattle.riff_chunks.specs.Walk.{Chunk, walk}
use Rattle.riff_chunks.specs.Finding.{chunks_in, is_whole}
use Rattle.bank_format.specs.Chunks.{window}
use Rattle.wave_file.specs.Wave.{DATA}
use Rattle.wave_file.specs.SampleWave.{made}

-- an unknown size
unfoldable pub UNKNOWN : List ℕ
UNKNOWN = 255 ∷ 255 ∷ 255 ∷ 255 ∷ []

-- ---- the RIFF chunk

-- its size is unknown
abbrev pub is_streamed : List ℕ → Bool
is_streamed file = bytes_eq (take 4 (drop 4 file)) UNKNOWN

-- its body after the form; if its size is unknown, the body ends with the file
unfoldable pub wave_window : List ℕ → List ℕ
wave_window file = if is_streamed file then drop 12 file else window file

-- ---- the chunks of a window

-- the bytes of a chunk: its header, its body, and a pad byte after a body of odd size
abbrev pub chunk_size : Chunk → ℕ
chunk_size c = 8 + length c.body + length c.body % 2

-- what follows the chunks that fit
unfoldable pub rest_of : List ℕ → List ℕ
rest_of w = drop (sum_by chunk_size (chunks_in (walk w))) w

-- the header of data of unknown size
abbrev pub begins_data : List ℕ → Bool
begins_data rest = bytes_eq (take 8 rest) (DATA ++ UNKNOWN)

-- all chunks fit, or the first that does not is data of unknown size
abbrev pub is_readable : List ℕ → Bool
is_readable w = is_whole (walk w) || begins_data (rest_of w)

-- The chunks of a readable window: those that fit, and then data of unknown size, which end with the window.
unfoldable pub wave_chunks : List ℕ → List Chunk
wave_chunks w =
    if is_whole (walk w) then chunks_in (walk w) else chunks_in (walk w) ++ made DATA (drop 8 (rest_of w)) ∷ []
